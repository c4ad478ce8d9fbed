pub mod Messages
pub mod Incoming
pub mod Laws
pub mod Told
pub mod Sent
