pub mod Along
pub mod Kept
pub mod Acts
pub mod Keeping
pub mod Acting
pub mod Rows
