pub mod Cases
pub mod Differences
pub mod Lists
