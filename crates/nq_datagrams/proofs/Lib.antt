pub mod Incarnations
pub mod Readers
pub mod Written
