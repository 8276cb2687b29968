pub mod Vote
pub mod LogId
pub mod LogIndex
pub mod Range
