mod KeyLeaderLemmas
pub mod KnownStateLemmas
mod MemberIdLemmas
pub mod PlacedIds
pub mod OrderLemmas
mod TermLemmas
