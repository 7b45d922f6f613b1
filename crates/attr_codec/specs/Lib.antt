pub mod Decoding
pub mod Fields
pub mod Pieces
pub mod Saying
pub mod Writing
