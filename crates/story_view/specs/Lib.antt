pub mod Readings
pub mod Story
pub mod Worked
