pub mod Empties
mod Changes
