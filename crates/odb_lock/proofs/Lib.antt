pub mod SharedLaws
pub mod SharedAccessLaws
