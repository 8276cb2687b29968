pub mod Listed
pub mod Numbers
pub mod Hearing
pub mod Round
pub mod Preparing
pub mod Keeping
pub mod Reading
