pub mod Directed
pub mod Peers
pub mod Numbered
pub mod Flows
pub mod Steps
pub mod Readings
