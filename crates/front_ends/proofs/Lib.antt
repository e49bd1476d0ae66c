pub mod FrontGrows
pub mod FrontTurns
pub mod FrontSteps
pub mod FrontSends
pub mod FrontMoments
