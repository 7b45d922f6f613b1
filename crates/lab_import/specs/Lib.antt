pub mod Texts
pub mod Limits
pub mod Inputs
pub mod Captures
