pub mod Calls
pub mod Answers
pub mod Script
pub mod Either
