pub mod Reached
pub mod Moving
pub mod Texts
