pub mod Compose
pub mod Demand
pub mod Walk
pub mod Many
