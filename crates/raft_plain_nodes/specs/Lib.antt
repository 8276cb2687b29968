pub mod Fuse
pub mod Met
pub mod Causes
