pub mod CauseLemmas
pub mod StopLemmas
