pub mod Values
pub mod Choosing
pub mod Steps
pub mod Ranks
