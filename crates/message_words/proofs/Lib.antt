pub mod Frames
pub mod Listed
pub mod Openings
pub mod Plain
pub mod Worked
