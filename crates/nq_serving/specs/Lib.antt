pub mod Classes
pub mod Extending
pub mod Leaving
pub mod LeavingTurns
pub mod Running
pub mod ServerTurn
pub mod Serving
pub mod Turning
