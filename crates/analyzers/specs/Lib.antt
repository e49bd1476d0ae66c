pub mod Analyzers
pub mod AnalyzerTurns
pub mod AnalyzerPulls
pub mod CountedRuns
pub mod AnalyzerKept
