pub mod Bending
pub mod Course
