pub mod Accounts
pub mod Changes
pub mod AccountsRows
pub mod Bases
pub mod NewEntries
pub mod NotesRun
