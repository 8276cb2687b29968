pub mod BufferLemmas
pub mod HeaderLemmas
pub mod HereLemmas
pub mod LawLemmas
pub mod NextLemmas
pub mod UnsyncedLemmas
pub mod WalkLemmas
pub mod WriterLemmas
