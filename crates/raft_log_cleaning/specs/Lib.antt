pub mod Extents
pub mod Due
pub mod Told
pub mod Stale
