pub mod Maps
pub mod OneWalk
pub mod TwoRouters
pub mod Visits
