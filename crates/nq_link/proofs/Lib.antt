pub mod Letters
mod Marks
mod Repeating
