pub mod Patterns
pub mod Channels
pub mod Pulls
pub mod RecordFiles
pub mod ChannelTurns
pub mod ChannelEnds
pub mod Beside
pub mod Keeping
