pub mod FieldsLemmas
pub mod Forms
pub mod Items
pub mod OptionWords
pub mod Named
pub mod OneLine
