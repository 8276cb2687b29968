pub mod Checking
pub mod Forking
pub mod Paths
