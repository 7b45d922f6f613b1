pub mod Labs
pub mod Runs
pub mod Laws
pub mod Marks
