pub mod Firsts
pub mod Named
pub mod Left
pub mod Rests
pub mod Worlds
