pub mod Wanted
pub mod Shapes
pub mod Later
pub mod Hints
