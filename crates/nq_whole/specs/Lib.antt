pub mod Answers
pub mod Heads
pub mod Pieces
pub mod Getting
pub mod Storing
pub mod Tidying
