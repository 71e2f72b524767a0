pub mod Fields
pub mod Image
pub mod Documents
pub mod Reads
pub mod Save
pub mod Written
pub mod Saved
pub mod Rows
