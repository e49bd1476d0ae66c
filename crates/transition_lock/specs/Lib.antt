pub mod EngineSteps
pub mod SharedEngines
