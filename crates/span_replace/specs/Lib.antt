pub mod Chosen
pub mod Longest
pub mod Replaced
pub mod Cursor
pub mod Search
pub mod Outcomes
pub mod Rows
