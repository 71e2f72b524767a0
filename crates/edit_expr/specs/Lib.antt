pub mod Eval
pub mod Values
pub mod Costs
pub mod Expressions
pub mod Operations
pub mod Laws
