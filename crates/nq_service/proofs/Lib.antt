mod LeftFirst
mod MountFailing
mod Nothing
pub mod Failing
pub mod MountSurviving
pub mod Opened
pub mod Readying
pub mod Refusing
pub mod Surviving
