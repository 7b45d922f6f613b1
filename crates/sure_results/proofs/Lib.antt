pub mod Scripts
pub mod Stages
pub mod Outcomes
pub mod Opening
pub mod Up
pub mod Sure
pub mod Worked
