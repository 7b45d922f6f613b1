pub mod Fields
pub mod Capsules
pub mod Stops
pub mod Worked
