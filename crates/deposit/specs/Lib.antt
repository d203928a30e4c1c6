pub mod Conduct
pub mod Deposit
