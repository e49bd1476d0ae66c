pub mod Keeping
pub mod Slots
pub mod Steps
pub mod History
pub mod DatabasePorts
