pub mod Silence
pub mod Laws
