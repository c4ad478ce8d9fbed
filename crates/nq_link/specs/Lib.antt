pub mod Link
pub mod Links
pub mod Marks
pub mod MemLink
pub mod Packets
pub mod Runs
