pub mod SnapshotContents
pub mod SnapshotHistory
pub mod SnapshotRefusal
pub mod SnapshotText
pub mod Snapshots
