pub mod Careful
pub mod Welcome
pub mod Numbers
pub mod Deeds
mod Changes
mod Takes
mod Sends
mod Steps
mod Runs
mod Rows
mod OneWorld
mod Setups
