pub mod Kept
pub mod KeyLaws
pub mod Places
