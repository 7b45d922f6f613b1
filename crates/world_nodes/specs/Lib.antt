pub mod Nodes
pub mod Edges
pub mod Ways
pub mod RunningLabs
pub mod Looks
pub mod Fresh
