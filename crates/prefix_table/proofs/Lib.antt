pub mod Indices
pub mod Listing
