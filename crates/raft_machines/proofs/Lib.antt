pub mod FoldLemmas
pub mod TellingLemmas
