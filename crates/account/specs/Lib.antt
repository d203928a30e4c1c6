pub mod State
pub mod Post
pub mod Looks
pub mod Many
