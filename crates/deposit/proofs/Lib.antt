pub mod Windows
pub mod Full
pub mod Law
pub mod Others
