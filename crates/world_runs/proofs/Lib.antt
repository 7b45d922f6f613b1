pub mod Comes
mod Goes
mod Acts
mod Runs
mod Nets
mod OnTheWay
mod Itself
pub mod Marks
pub mod Groups
pub mod Seen
