pub mod Taken
pub mod Sounds
pub mod Sizes
pub mod ReadOnce
