pub mod PlaceLemmas
pub mod RisingLemmas
pub mod CoherentLemmas
pub mod EachOnceLemmas
