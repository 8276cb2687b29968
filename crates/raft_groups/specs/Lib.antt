pub mod Standing
pub mod Faults
pub mod Opening
