pub mod Values
pub mod Answers
pub mod Told
pub mod Rows
