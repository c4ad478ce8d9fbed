mod Going
mod Overwriting
mod Walks
pub mod Adding
pub mod Batching
pub mod Changing
pub mod Encoding
pub mod Fielding
pub mod Front
pub mod Lawful
pub mod Opening
pub mod Reading
pub mod RedoGoing
pub mod Replaying
pub mod Settled
pub mod Settling
