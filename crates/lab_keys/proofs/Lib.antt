pub mod NoFlaws
pub mod Splits
pub mod Strays
pub mod TextFinds
pub mod Walks
