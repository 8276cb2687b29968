pub mod Keeping
pub mod Loaded
pub mod Plain
