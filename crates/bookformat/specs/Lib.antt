pub mod Book
pub mod Lent
pub mod Finding
pub mod Facts
pub mod Trips
