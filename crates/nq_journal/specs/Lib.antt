pub mod Fault
pub mod Groups
pub mod Parsing
pub mod Printing
pub mod ReadingEntries
pub mod Text
