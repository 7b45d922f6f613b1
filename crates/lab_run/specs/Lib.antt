pub mod Ends
pub mod Stories
pub mod Forwards
pub mod Runs
