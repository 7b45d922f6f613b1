pub mod Spots
pub mod Texts
pub mod Words
pub mod Reported
pub mod Kinds
pub mod KeyRows
pub mod Keys
pub mod Values
