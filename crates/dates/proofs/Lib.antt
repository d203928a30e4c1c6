pub mod Walk
pub mod Inverse
pub mod Years
pub mod Passing
pub mod Law
pub mod YearLaw
