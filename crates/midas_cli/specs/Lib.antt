pub mod Generating
pub mod Outcomes
pub mod Programs
pub mod Tools
pub mod Usages
