pub mod Clock
pub mod Heard
pub mod Quorum
pub mod View
