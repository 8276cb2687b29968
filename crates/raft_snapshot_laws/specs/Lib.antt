pub mod Snapshots
pub mod SnapshotRows
