pub mod Running
pub mod Codes
pub mod Fronts
pub mod Steps
pub mod Inner
