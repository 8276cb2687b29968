pub mod Placed
pub mod Blocks
pub mod Unread
pub mod Held
pub mod Last
