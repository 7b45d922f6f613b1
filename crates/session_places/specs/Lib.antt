pub mod Keys
pub mod Lends
pub mod Places
