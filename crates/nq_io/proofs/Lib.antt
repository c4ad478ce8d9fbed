mod Telling
pub mod Told
mod Writing
