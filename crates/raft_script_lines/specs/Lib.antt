pub mod Grammar
pub mod Outcome
pub mod Reading
pub mod Verbs
pub mod Words
