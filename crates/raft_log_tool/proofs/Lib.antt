pub mod LineLemmas
pub mod RepairLemmas
pub mod SizeLemmas
