pub mod Versions
pub mod Texts
