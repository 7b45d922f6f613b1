pub mod Asking
pub mod Facts
pub mod Numbers
pub mod Parts
mod Journaled
mod Traced
