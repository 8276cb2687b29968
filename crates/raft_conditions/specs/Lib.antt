pub mod Reason
pub mod Messages
pub mod Facts
pub mod ByFacts
pub mod Fitting
