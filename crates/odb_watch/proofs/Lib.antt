pub mod NotesKept
pub mod WatchSlots
pub mod Due
pub mod StepLemmas
pub mod Few
pub mod Standing
mod CallLaws
