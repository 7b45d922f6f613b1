pub mod Octets
pub mod Telling
pub mod Counting
pub mod Lasts
pub mod Pieces
pub mod Agreeing
pub mod Waited
pub mod Shown
