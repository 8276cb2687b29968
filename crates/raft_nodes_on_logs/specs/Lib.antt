pub mod Answering
pub mod Kinds
pub mod Kept
pub mod Standing
pub mod Acts
