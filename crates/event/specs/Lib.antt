pub mod Events
pub mod RunFile
pub mod Generator
pub mod Headers
pub mod Held
pub mod Filled
pub mod Pieces
