pub mod Forms
pub mod Listed
pub mod NoFloats
pub mod Shown
pub mod Walked
pub mod Tokens
