pub mod Lines
pub mod Listing
pub mod Texts
pub mod Samples
