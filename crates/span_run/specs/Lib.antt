pub mod Exit
pub mod Taken
