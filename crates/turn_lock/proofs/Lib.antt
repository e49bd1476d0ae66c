pub mod Missing
pub mod Keeps
pub mod Dealing
pub mod Endings
pub mod LockLaws
