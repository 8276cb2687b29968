pub mod AppliedLists
pub mod Folds
pub mod Tokens
pub mod Restoring
pub mod Leading
pub mod Steps
pub mod Shots
