pub mod Stamps
pub mod Clocks
