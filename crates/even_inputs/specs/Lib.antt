pub mod Announced
pub mod Timers
pub mod Evenness
pub mod Readings
pub mod Solutions
pub mod Laws
pub mod Worked
