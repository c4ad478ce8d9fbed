pub mod Answering
pub mod Times
