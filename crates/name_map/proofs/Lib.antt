pub mod Index
pub mod NamedLaws
pub mod SlotLaws
