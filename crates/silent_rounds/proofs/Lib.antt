pub mod LinkPlans
pub mod SilentLinks
pub mod SameWorlds
pub mod NothingLeft
pub mod Quieted
