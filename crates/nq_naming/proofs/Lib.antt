pub mod Inside
pub mod Keeping
pub mod Moments
pub mod Printed
