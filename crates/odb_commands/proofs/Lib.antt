mod AnswerLaws
mod Made
pub mod CommandCallLaws
pub mod WatchMade
pub mod DumpMade
pub mod CommandsMade
mod Added
mod NumberStays
mod Sparing
mod FileLaws
