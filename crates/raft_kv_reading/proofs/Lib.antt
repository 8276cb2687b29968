pub mod Fits
pub mod Fronts
pub mod Changes
pub mod Telling
pub mod Keys
pub mod ToldAnswers
pub mod RowLemmas
