pub mod Orders
pub mod Runs
pub mod Clocks
pub mod Pieces
pub mod Joined
pub mod TwoRuns
pub mod Growths
