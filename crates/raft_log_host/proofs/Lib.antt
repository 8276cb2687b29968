pub mod Causes
pub mod Loaded
pub mod Mirrored
pub mod Sent
pub mod Torn
