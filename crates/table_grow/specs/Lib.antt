pub mod Remembering
pub mod Assignment
pub mod FillerView
pub mod Filling
pub mod Schedule
pub mod Layers
pub mod Pieces
