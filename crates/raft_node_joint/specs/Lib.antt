pub mod Saying
pub mod Standing
pub mod Coming
pub mod Leading
pub mod Reopening
