pub mod Run
pub mod Claim
pub mod Many
