pub mod Opens
pub mod Legal
pub mod Laws
pub mod States
pub mod Readings
pub mod WorkedSessions
