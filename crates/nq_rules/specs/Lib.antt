pub mod Grants
pub mod InOrder
pub mod Kept
pub mod Keys
pub mod Lines
pub mod Marks
pub mod Named
pub mod Sought
