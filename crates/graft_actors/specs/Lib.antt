pub mod Items
pub mod Notes
pub mod Acts
pub mod Emissions
pub mod Actors
pub mod Makes
pub mod Seen
pub mod Laws
