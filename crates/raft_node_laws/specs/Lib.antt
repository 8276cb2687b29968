pub mod Answered
pub mod Delivery
pub mod Saying
pub mod Law
pub mod Reporting
pub mod Rows
