pub mod Parts
pub mod Decides
pub mod Tasks
pub mod Opens
