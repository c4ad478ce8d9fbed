pub mod Args
pub mod Wrongs
