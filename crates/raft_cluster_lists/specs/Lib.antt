pub mod Brought
pub mod GoingOn
pub mod Groups
pub mod Hearing
pub mod Keeping
pub mod Lists
pub mod Places
