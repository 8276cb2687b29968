pub mod Leaving
pub mod Plain
