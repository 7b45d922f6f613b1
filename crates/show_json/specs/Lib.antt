pub mod Routes
pub mod Sessions
pub mod Show
