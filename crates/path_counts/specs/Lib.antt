pub mod Paths
pub mod Counting
pub mod Digest
pub mod Branch
pub mod Runs
pub mod Pushed
pub mod Flat
