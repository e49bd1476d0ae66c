pub mod Names
pub mod Arena
pub mod Inside
pub mod Reaching
pub mod Growth
pub mod Leaves
