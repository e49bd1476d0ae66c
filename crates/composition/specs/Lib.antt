pub mod SentSets
pub mod Sessions
pub mod SessionRuns
pub mod CompositionLaws
pub mod SessionSamples
pub mod CountedSamples
pub mod NeededSamples
pub mod PausedSamples
