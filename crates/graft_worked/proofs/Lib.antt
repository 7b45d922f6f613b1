pub mod Points
pub mod Tens
pub mod Setup
pub mod Ungiven
pub mod First
pub mod GraftRows
pub mod GraftRun
pub mod GraftEnds
pub mod StartRows
pub mod Arrivals
pub mod StartTables
pub mod StartRun
pub mod Others
mod Asked
pub mod Moves
pub mod Puts
mod Next
mod Due
pub mod Sends
pub mod Refused
mod Frozen
mod SourceRefusals
mod Unchanged
pub mod Wrong
pub mod Alone
pub mod Weaker
mod Emptied
