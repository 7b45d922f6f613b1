pub mod Links
pub mod Headers
pub mod Reading
pub mod Writing
pub mod Worked
