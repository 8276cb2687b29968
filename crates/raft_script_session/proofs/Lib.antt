pub mod LineLemmas
pub mod SessionLemmas
pub mod OutputLemmas
pub mod ReadingLemmas
pub mod RunLemmas
