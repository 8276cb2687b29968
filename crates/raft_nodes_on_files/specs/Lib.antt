pub mod OnFiles
pub mod Stops
