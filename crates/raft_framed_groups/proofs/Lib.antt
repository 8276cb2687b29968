pub mod FramedLemmas
