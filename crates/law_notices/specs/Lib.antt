pub mod RowsAreGivenUp
pub mod GivenUpIsMet
