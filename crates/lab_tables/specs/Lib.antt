pub mod Meanings
pub mod Routers
pub mod Peerings
pub mod Scripts
pub mod Expects
pub mod Documents
pub mod Rows
