pub mod Timeless
pub mod Unsaid
pub mod Words
pub mod Held
pub mod Joined
pub mod Gifts
