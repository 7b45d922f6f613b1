pub mod Messages
pub mod Names
pub mod Notices
pub mod Updates
pub mod Worked
