pub mod Known
pub mod Symbols
pub mod Blocks
pub mod BlocksView
pub mod Sharer
pub mod PartsView
pub mod Laws
