pub mod Keeping
mod Deciding
mod Tellings
pub mod Changes
mod Listings
mod Grouping
mod Alike
mod Finding
mod Emptied
mod Dropping
pub mod Beginning
mod Dropped
mod Known
mod Waiting
