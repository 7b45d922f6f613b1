pub mod Rules
pub mod Paths
pub mod Policies
pub mod Candidates
pub mod Telling
pub mod Worked
