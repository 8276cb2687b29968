pub mod Queues
pub mod Status
pub mod Text
