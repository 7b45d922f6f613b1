pub mod Ends
pub mod Taps
pub mod Captures
pub mod Places
pub mod Tapping
pub mod Laws
