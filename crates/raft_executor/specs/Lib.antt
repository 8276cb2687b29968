pub mod Said
pub mod Stored
pub mod SendingTimes
