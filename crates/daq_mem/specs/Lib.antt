-- What the objects in memory tell.
pub mod FilesSeen
pub mod MemSeen
pub mod Plans
pub mod SeenFiles
pub mod Series
pub mod StreamsSeen
