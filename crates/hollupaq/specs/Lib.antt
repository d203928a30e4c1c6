pub mod Library
pub mod Books
