pub mod Clock
pub mod Clocks
pub mod Counts
pub mod StdClock
pub mod Tracks
