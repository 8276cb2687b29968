pub mod ReadingLemmas
pub mod PlaceLemmas
pub mod WholeLemmas
