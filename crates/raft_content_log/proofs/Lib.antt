pub mod Blocks
pub mod Elsewhere
pub mod Written
