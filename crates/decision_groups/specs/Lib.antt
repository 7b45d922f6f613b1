pub mod Order
pub mod Champions
pub mod Groups
pub mod Indices
pub mod Sources
