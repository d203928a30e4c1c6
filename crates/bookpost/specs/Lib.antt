pub mod BookHistory
