pub mod ForeignLaws
pub mod SharedLaws
pub mod SendFaults
pub mod SharedPortLaws
