pub mod Merges
pub mod Worlds
pub mod Growth
pub mod Laws
