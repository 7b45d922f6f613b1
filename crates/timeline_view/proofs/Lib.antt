pub mod ByRound
pub mod Counted
pub mod Moves
pub mod Numbered
pub mod Pieces
pub mod Stories
pub mod Told
