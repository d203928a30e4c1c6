pub mod Room
pub mod Whole
