pub mod CommandLine
pub mod Reader
