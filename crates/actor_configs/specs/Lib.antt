pub mod Configs
pub mod Says
pub mod Fars
pub mod Scripts
