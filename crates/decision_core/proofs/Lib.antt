pub mod Filters
pub mod NineRules
pub mod AnyOrder
