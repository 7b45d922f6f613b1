pub mod Rows
pub mod Fronts
pub mod Locality
pub mod PartKinds
pub mod Parts
pub mod OneReading
pub mod SoFar
pub mod WrittenParts
