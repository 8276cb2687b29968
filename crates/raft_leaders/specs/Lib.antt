pub mod Candidate
pub mod Leader
pub mod Accepted
