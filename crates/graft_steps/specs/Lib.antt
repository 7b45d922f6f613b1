pub mod Landings
pub mod Pendings
pub mod Refusals
