pub mod Standing
mod Led
pub mod Taken
mod Calls
pub mod Pieces
mod Deliveries
pub mod Openings
mod Lending
pub mod Keeping
pub mod Handing
mod Beginning
