pub mod RangeLemmas
pub mod FactLemmas
pub mod ChangeLemmas
pub mod SizeLemmas
pub mod FitLemmas
