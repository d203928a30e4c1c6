pub mod Demand
pub mod Told
