pub mod Cached
pub mod Entries
pub mod Granting
pub mod Revisions
