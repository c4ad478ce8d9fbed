pub mod Ranges
pub mod Rounds
pub mod Wrongness
