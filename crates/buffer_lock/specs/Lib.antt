pub mod BufferSteps
pub mod SharedBuffers
pub mod SharedPorts
