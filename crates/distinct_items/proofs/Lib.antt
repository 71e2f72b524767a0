pub mod SearchLemmas
pub mod Moving
pub mod Marks
pub mod Used
pub mod Dropping
pub mod Adding
