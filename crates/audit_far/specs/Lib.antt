pub mod Parts
pub mod Decides
pub mod Heads
