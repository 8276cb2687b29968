pub mod ForkLemmas
pub mod PathLemmas
pub mod ReadLemmas
pub mod RunLemmas
pub mod ToldLemmas
