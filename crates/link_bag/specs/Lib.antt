pub mod Fates
pub mod Planned
