pub mod Calls
pub mod Told
pub mod Laws
pub mod ReportsRun
