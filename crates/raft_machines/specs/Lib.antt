pub mod Adding
pub mod Fault
pub mod Fold
pub mod Machine
pub mod MembershipFault
pub mod Telling
