pub mod Calling
pub mod Losses
