pub mod Answers
pub mod Home
