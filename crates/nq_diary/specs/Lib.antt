pub mod Diary
