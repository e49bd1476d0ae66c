pub mod Turns
pub mod Rounds
pub mod Crews
pub mod MemberHandles
