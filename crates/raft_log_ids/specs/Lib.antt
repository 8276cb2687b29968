pub mod LogIdList
pub mod Faults
