pub mod Lists
pub mod TaskOrder
pub mod SlotLaws
pub mod Placed
pub mod Scripts
pub mod Issues
pub mod Notes
pub mod Ready
pub mod GiftLists
pub mod Gifts
pub mod GiftTasks
pub mod GroupSpan
pub mod Begins
pub mod Tasks
pub mod Steps
pub mod Rests
pub mod GraftLog
pub mod Holds
mod SlotLoops
mod GiftLoops
pub mod GroupSteps
pub mod NextGroup
pub mod FirstGroup
pub mod Starts
mod GroupLoops
