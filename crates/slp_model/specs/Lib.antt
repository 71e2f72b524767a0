pub mod Tree
pub mod Nodes
pub mod Join
pub mod Shape
pub mod Laws
pub mod Distinct
pub mod Kept
pub mod Thin
