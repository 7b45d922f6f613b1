pub mod Pairs
pub mod Peers
pub mod Pieces
pub mod Readings
pub mod StepsSoFar
