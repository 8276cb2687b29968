pub mod OrderLemmas
pub mod FallingLemmas
pub mod GrantedLemmas
pub mod ValuesLemmas
pub mod PartsLemmas
pub mod CountedLemmas
pub mod ReplayLemmas
