pub mod Search
pub mod Renumbering
