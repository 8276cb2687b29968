pub mod Applied
pub mod Building
pub mod Following
pub mod Running
pub mod Seen
