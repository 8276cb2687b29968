pub mod StoredSnapshots
pub mod SentSnapshots
