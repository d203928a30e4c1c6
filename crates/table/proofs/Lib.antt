pub mod Equations
pub mod ByKind
pub mod Seen
