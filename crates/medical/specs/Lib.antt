pub mod Medical
