mod MembershipLemmas
mod WalkLemmas
mod LeadLemmas
mod ListLemmas
mod KeepLemmas
mod SetLemmas
mod TruthLemmas
mod RoomLemmas
pub mod MessageLemmas
