pub mod Held
pub mod Counts
pub mod Missing
pub mod Placed
pub mod Ready
pub mod Covered
