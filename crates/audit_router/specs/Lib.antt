pub mod Places
pub mod Parts
pub mod Decides
pub mod Nexts
pub mod Begins
pub mod Followed
pub mod Grafts
pub mod Landed
