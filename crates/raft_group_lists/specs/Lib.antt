pub mod Notes
pub mod Facts
pub mod Room
