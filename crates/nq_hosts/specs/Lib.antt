pub mod Answers
pub mod Calling
pub mod ClientTurn
pub mod Lines
pub mod Running
pub mod Telling
pub mod UserTurning
pub mod Using
