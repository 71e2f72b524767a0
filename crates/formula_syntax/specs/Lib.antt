pub mod Numbering
pub mod Lexis
pub mod Grammar
pub mod FormulaOf
pub mod Machine
pub mod View
pub mod Laws
pub mod Below
