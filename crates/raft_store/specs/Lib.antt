pub mod Keys
pub mod Reading
pub mod Batches
pub mod Faults
pub mod Showing
pub mod Storable
