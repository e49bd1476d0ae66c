pub mod SharedOdbs
pub mod SharedAccesses
