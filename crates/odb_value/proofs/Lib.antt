pub mod NameFaults
pub mod Reading
pub mod PathLaws
pub mod PathAgain
pub mod ValueKept
pub mod LinksKept
pub mod FormSteps
pub mod Stops
pub mod FirstPlace
pub mod KeyLines
pub mod ReadAgain
mod SignedReads
