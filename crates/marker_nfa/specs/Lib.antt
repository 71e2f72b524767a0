pub mod Automaton
pub mod Occurrences
pub mod Parts
