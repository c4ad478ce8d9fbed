mod Repeating
pub mod Ends
pub mod Filling
pub mod NameTests
pub mod Options
