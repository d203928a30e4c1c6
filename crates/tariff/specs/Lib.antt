pub mod Allowed
pub mod Blocks
pub mod Classes
pub mod Largest
