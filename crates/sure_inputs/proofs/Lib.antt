pub mod Openings
pub mod Readings
pub mod Remotes
pub mod Said
pub mod Steps
pub mod Sound
