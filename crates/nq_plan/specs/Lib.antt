pub mod Finding
pub mod Formatted
pub mod Held
pub mod Placing
pub mod Reading
pub mod Standing
pub mod Ranges
pub mod Settling
