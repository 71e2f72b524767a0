pub mod Facts
pub mod Names
pub mod Remaining
pub mod Sent
