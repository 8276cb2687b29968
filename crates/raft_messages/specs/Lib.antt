pub mod Messages
pub mod Memberships
pub mod Entries
