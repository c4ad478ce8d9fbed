pub mod CountLists
pub mod Judging
pub mod Tracking
