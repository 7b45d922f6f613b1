pub mod Opened
pub mod PlainPeerings
pub mod Tested
pub mod Whole
mod Evens
mod Notes
mod Adding
mod Announcing
mod Framing
mod PolicyLists
mod Meant
