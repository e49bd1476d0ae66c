mod KeptLines
mod Scanning
pub mod LinesSoFar
mod TypeLaws
mod WordLaws
mod TableLaws
mod SpelledLaws
pub mod Exits
pub mod KeptForms
pub mod ReadLines
pub mod Knowing
