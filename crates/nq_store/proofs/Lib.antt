mod Sought
mod Rows
mod Zeroing
mod Keeping
mod Committing
mod Asking
mod Carrying
mod Bodies
pub mod Migrated
mod Told
mod Asked
mod Staying
mod Opened
mod Left
pub mod Emptied
pub mod Risen
pub mod Parts
pub mod Same
pub mod ImagesRows
pub mod Tables
pub mod Ids
pub mod Numbers
pub mod Two
pub mod Written
pub mod Leaving
pub mod Saying
pub mod ImagesZeroing
pub mod Files
pub mod Seats
pub mod Filing
pub mod ImagesWriting
pub mod Steps
pub mod FileStep
pub mod BlockStep
pub mod Marks
pub mod Whole
pub mod ImagesOpening
pub mod Fitting
pub mod Closed
