pub mod Events
pub mod GeneratorLaws
pub mod Rows
pub mod ReadBack
pub mod Filling
mod Gathering
mod Lending
pub mod Headers
