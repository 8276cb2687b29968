pub mod Runs
pub mod Alike
pub mod Traces
pub mod GroupTraces
pub mod Files
pub mod Before
pub mod TraceLaws
pub mod Opened
