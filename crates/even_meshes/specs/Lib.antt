pub mod Meshes
pub mod Worked
pub mod Worlds
pub mod Laws
