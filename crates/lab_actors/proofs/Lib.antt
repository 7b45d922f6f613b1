pub mod Begun
pub mod Upto
