pub mod Emptying
pub mod Formatting
pub mod MountServing
pub mod Opening
pub mod Recent
pub mod Serving
