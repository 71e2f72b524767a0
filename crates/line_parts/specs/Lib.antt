pub mod Numbers
pub mod NameList
