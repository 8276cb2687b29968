pub mod Places
pub mod Traced
pub mod Opened
pub mod Written
