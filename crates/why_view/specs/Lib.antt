pub mod Rules
pub mod Winners
pub mod Stories
pub mod Sources
pub mod Why
pub mod Laws
pub mod Worked
