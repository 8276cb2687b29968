pub mod Content
pub mod Endings
