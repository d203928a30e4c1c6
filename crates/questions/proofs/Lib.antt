pub mod Asked
pub mod Laws
pub mod Told
