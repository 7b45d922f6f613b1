pub mod Forwards
pub mod Seen
