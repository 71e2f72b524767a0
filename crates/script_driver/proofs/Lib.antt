pub mod Kept
pub mod Doing
pub mod Halting
pub mod Names
pub mod Pieces
pub mod RunsLemmas
