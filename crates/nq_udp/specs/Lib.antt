pub mod Book
pub mod Local
pub mod UdpLink
