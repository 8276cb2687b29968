pub mod PlaceLemmas
pub mod TraceLemmas
pub mod OpenedLemmas
pub mod ReplayedLemmas
pub mod MarkedLemmas
pub mod PartedLemmas
pub mod WrittenLemmas
