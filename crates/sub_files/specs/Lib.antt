pub mod Patterns
pub mod RecordFiles
pub mod Cuts
pub mod SampleCuts
pub mod Pieces
pub mod Rolls
