pub mod Membership
pub mod Validity
pub mod MembershipChange
pub mod Forward
pub mod Laws
pub mod MembershipState
