pub mod Reading
pub mod Rising
