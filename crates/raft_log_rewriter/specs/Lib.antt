pub mod Due
pub mod Standing
pub mod Parts
pub mod Rewriting
