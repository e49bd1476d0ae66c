pub mod Setup
pub mod DeclaredMembers
pub mod Refusals
pub mod SetupLines
