mod Asking
pub mod Choosing
pub mod Counting
pub mod MenuPlaces
pub mod Passing
pub mod Playing
pub mod Spelling
pub mod Telling
pub mod Whole
