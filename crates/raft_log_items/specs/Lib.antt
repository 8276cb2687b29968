pub mod Found
pub mod Holes
pub mod Items
