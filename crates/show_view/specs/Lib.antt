pub mod Sessions
pub mod Routes
pub mod Untold
pub mod Links
pub mod Waiting
pub mod Show
pub mod Laws
