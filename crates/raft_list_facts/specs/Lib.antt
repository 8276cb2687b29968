pub mod Accepting
pub mod Leads
pub mod Rows
