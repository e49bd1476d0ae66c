pub mod Turns
pub mod RingLaws
pub mod Raising
pub mod PointerLaws
pub mod GivenNumbers
pub mod Fields
pub mod Opening
pub mod CountLaws
pub mod Walking
pub mod Sending
pub mod GivenEvents
pub mod ReceiveReads
pub mod Clients
pub mod Lives
pub mod ReadRows
mod WholeWalk
