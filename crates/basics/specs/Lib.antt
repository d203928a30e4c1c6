pub mod Machine
pub mod Ascii
