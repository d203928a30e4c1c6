pub mod Standing
pub mod Report
