pub mod Command
pub mod Output
pub mod Config
pub mod Replicate
