pub mod History
pub mod Views
pub mod Protocol
pub mod Passes
pub mod Entered
pub mod Roster
pub mod Closing
