mod PartsRead
mod Allowed
mod Beginnings
mod Failing
mod Ends
mod Going
pub mod AtHand
pub mod HeadersBack
pub mod OneReading
pub mod ReadLaws
