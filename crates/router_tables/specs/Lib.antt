pub mod Entering
pub mod Dues
pub mod Owned
pub mod Reads
