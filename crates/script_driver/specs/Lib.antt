pub mod Position
pub mod Progress
