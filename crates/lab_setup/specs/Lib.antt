pub mod Setups
pub mod Said
pub mod Accepted
