pub mod Rows
pub mod Law
pub mod Paid
pub mod Halving
