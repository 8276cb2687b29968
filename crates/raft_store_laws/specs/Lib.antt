pub mod Storable
