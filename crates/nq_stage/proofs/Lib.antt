pub mod Again
pub mod Answered
pub mod Inner
pub mod Keys
pub mod Newest
pub mod Offered
pub mod Writes
mod Apart
mod Boots
mod Datagrams
mod KnownBodies
mod KnownClient
mod KnownRuns
mod KnownSteps
mod Meaning
mod Meant
mod NotStored
pub mod Rebuilt
pub mod Schedules
mod SomeStaged
