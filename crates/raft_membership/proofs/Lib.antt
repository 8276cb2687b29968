pub mod MembershipLemmas
pub mod LawLemmas
pub mod ReplaceLemmas
pub mod FaultLemmas
pub mod AddedLemmas
pub mod OneGroupLemmas
