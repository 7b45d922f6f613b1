pub mod Ranges
pub mod Fronts
pub mod Slots
pub mod Phases
pub mod Channels
pub mod Nodes
pub mod Sessions
pub mod Observing
