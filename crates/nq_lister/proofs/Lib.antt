pub mod GoingOn
pub mod Keeping
pub mod Telling
