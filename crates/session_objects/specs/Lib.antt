pub mod Rosters
pub mod Objects
pub mod Kept
pub mod Calls
pub mod Records
pub mod Members
pub mod Returns
pub mod Names
