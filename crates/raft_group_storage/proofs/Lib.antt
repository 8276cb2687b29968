pub mod Naming
pub mod Present
