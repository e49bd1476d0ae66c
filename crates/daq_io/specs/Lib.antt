-- What a source, a sink, files, a clock and a pick tell, and the laws of it.
pub mod Counts
pub mod FileLeft
pub mod Origins
pub mod Rooms
pub mod Seen
pub mod Told
pub mod Traces
pub mod Streams
pub mod Tallies
pub mod Uses
