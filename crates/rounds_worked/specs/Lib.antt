pub mod Marks
pub mod Routers
pub mod Fars
pub mod Whole
pub mod Clocks
