pub mod Lists
pub mod Seen
pub mod Sources
pub mod Placed
pub mod Forwarding
