pub mod ScriptLemmas
pub mod StopLemmas
pub mod FuseLemmas
