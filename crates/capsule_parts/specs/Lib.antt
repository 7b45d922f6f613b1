pub mod Parts
pub mod Sound
pub mod Offered
pub mod Retold
