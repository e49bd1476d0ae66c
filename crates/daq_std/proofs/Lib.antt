mod BlockBytes
mod ByteSteps
mod InUse
