pub mod Messages
pub mod Opens
pub mod Steps
pub mod Imports
pub mod Heard
pub mod Opened
pub mod Packed
