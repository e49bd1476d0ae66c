pub mod RunKeys
pub mod RunSets
pub mod RunNumberKept
