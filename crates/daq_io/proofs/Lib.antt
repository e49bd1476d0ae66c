mod OneFile
mod Results
mod UseLemmas
mod Writing
pub mod Counts
pub mod ReadingLaws
pub mod SeenLaws
pub mod StreamsLaws
