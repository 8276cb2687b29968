pub mod Member
pub mod Running
pub mod Opening
pub mod Ready
pub mod Hearing
pub mod Faults
