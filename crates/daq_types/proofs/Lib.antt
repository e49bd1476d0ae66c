mod ZerosBehind
mod TidTable
pub mod CallersLaws
