pub mod Entries
pub mod Cache
