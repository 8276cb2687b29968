pub mod FoundLemmas
pub mod ReadLemmas
