pub mod Groups
pub mod Parts
pub mod Changes
pub mod Decides
pub mod Dues
