pub mod Entries
pub mod Ends
pub mod Routers
pub mod Fars
pub mod Whole
pub mod Laws
