pub mod PlainPeerings
pub mod Noted
pub mod Imports
pub mod Policies
