pub mod Answers
pub mod Commands
pub mod Lines
pub mod Starts
pub mod Wrongs
