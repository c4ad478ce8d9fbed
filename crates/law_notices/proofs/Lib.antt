pub mod Told
pub mod Attached
pub mod GivenUp
pub mod RowsGo
pub mod SomeGivenUp
