pub mod Desk
pub mod Inbox
pub mod Listing
pub mod Waiting
pub mod Work
