mod Types
mod Summing
pub mod Pieces
mod OneWrong
mod Gathered
mod Told
mod Ending
mod EndCounts
mod Dumping
mod Dumped
mod Complete
mod Written
mod ReadBack
pub mod AreasLaws
pub mod Printing
mod Joined
