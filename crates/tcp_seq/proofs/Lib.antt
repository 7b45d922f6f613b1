pub mod Lookups
pub mod ByteFrom
pub mod Received
pub mod Arriving
pub mod Flows
pub mod Carried
pub mod Emitting
