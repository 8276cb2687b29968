pub mod Map
pub mod Pairs
pub mod Machine
pub mod Restoring
pub mod Rows
