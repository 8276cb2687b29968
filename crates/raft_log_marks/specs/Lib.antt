pub mod GroupMarks
pub mod MarkLaws
pub mod Cleaning
pub mod Whole
pub mod Standing
pub mod Opened
pub mod Mapped
pub mod Caused
