pub mod Avoiding
pub mod PolicyLemmas
pub mod Tells
