pub mod Joined
pub mod Inputs
pub mod Builders
pub mod BuilderTurns
pub mod BuilderPulls
pub mod BuilderSends
