pub mod Outside
pub mod Tapes
