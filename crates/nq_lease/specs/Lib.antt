pub mod Ending
pub mod Ends
pub mod Kept
pub mod Rows
pub mod Telling
