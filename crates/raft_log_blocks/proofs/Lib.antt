pub mod EntryReads
pub mod HeldLemmas
pub mod Whole
pub mod NewEntries
