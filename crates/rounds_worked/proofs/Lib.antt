pub mod Marks
pub mod Routers
mod Operators
pub mod Fars
pub mod Whole
mod Clocks
pub mod Never
mod Answering
