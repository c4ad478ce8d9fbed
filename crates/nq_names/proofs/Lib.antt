pub mod Agreeing
pub mod Finding
pub mod Hearing
pub mod Keeping
pub mod Leading
pub mod Reaching
pub mod Renewing
pub mod Taking
