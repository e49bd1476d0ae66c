pub mod Opens
pub mod NumberKept
pub mod RunSetLaws
pub mod SetCalls
