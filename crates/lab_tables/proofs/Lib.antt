pub mod GraftNumbers
pub mod Groups
pub mod Onces
pub mod Openings
