pub mod Faults
pub mod Parts
pub mod HasRead
pub mod Steps
pub mod Opened
pub mod ReadLaws
pub mod AtHand
