pub mod Causes
pub mod FileCauses
