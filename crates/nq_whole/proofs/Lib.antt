pub mod Heading
pub mod Joining
pub mod Orders
pub mod Parts
