pub mod Collection
