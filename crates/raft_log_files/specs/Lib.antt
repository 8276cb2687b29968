pub mod Error
pub mod FileName
pub mod Size
pub mod Settings
pub mod Toml
