mod Rows
mod Sharing
mod Taken
pub mod PageLemmas
