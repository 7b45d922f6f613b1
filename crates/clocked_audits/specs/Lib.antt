pub mod Timed
pub mod Laws
