pub mod Dictionary
pub mod Remembered
pub mod Kept
pub mod Number
pub mod TextIndex
pub mod Rank
pub mod Ahead
pub mod Earlier
