pub mod Forms
pub mod Outlined
pub mod Rounds
pub mod Whys
