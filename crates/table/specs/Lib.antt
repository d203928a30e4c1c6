pub mod ByKind
pub mod Seen
