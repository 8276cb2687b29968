pub mod Limits
pub mod StepLemmas
