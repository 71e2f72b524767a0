pub mod Tuples
pub mod Entries
