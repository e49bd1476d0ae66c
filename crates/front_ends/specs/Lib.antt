pub mod FrontIds
pub mod Fronts
pub mod Spans
pub mod FrontKept
