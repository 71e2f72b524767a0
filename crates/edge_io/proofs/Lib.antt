pub mod FileLemmas
pub mod Known
pub mod Moves
