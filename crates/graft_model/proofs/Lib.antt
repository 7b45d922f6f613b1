pub mod Still
mod Dirties
mod Dues
mod Ends
mod Items
mod Same
pub mod Rising
mod Needs
mod OneOutcome
mod FarOutcome
mod OperatorOutcome
pub mod OneWorld
mod Answered
pub mod Footprints
pub mod Takes
pub mod GoAlone
pub mod Numbers
pub mod Gifts
mod SmallWorlds
