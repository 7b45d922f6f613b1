pub mod Progresses
pub mod Turns
pub mod Operators
