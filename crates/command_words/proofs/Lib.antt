mod Stray
mod Levels
mod Reading
mod Texts
pub mod FormParts
