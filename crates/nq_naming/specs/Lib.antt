pub mod Finding
pub mod Going
pub mod Line
pub mod Playing
pub mod PlayingLaws
pub mod Running
pub mod Text
pub mod TextLaws
