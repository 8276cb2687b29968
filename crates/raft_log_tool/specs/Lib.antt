pub mod Command
pub mod Lines
pub mod Repairs
pub mod Sizes
pub mod Span
pub mod Status
