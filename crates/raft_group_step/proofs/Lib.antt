pub mod LastMembership
pub mod Words
pub mod Refusals
pub mod Votes
pub mod Peers
pub mod EntryPlaces
