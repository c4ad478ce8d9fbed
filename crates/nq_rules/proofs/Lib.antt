pub mod Backwards
pub mod LineParts
pub mod Lining
pub mod NameLosses
pub mod NextLines
pub mod Places
