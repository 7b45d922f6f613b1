pub mod Folds
pub mod Choices
pub mod Bases
pub mod Tops
pub mod Leaders
pub mod Solutions
pub mod Crossed
pub mod Joined
