mod Base
mod Answerings
mod Chains
pub mod Exists
mod Joined
mod Kept
pub mod Pages
mod Roots
mod Runs
mod Tables
mod Tuples
mod Walks
mod Ways
pub mod Words
mod WordSets
mod Agreed
mod LastEnds
