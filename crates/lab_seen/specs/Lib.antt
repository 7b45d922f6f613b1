pub mod Seen
pub mod Finished
pub mod Found
