pub mod DigitLemmas
pub mod NumberLemmas
pub mod OpeningLemmas
pub mod RoundTrip
pub mod TableLemmas
