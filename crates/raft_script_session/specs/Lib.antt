pub mod Lines
pub mod Run
pub mod Reading
pub mod Output
pub mod End
