mod Calls
mod Forms
mod Given
mod Parts
