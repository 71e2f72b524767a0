pub mod Growing
pub mod Placed
pub mod Layering
pub mod Scheduling
pub mod Spots
