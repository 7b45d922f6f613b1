pub mod Indices
pub mod Moves
