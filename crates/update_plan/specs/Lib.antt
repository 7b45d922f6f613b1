pub mod Plans
pub mod ToTell
pub mod Codes
pub mod Gathering
pub mod Passing
