pub mod Reading
pub mod Reader
pub mod Writer
pub mod Errors
pub mod Laws
pub mod Unsynced
