pub mod Words
pub mod Exits
pub mod Steps
pub mod Others
pub mod OwnWays
