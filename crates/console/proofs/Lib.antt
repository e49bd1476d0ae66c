pub mod ConsoleLaws
pub mod Refused
pub mod FileLines
mod PlayingLaws
mod PlayingEnds
mod ClosingLaws
pub mod KeepingLaws
