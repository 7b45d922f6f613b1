pub mod Bytes
pub mod Said
pub mod Names
pub mod Counts
pub mod Labs
pub mod Plain
