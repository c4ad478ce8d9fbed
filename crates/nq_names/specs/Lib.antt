pub mod Playing
pub mod Taking
