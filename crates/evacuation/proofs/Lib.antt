pub mod Loads
pub mod FreePlaces
pub mod PlanLaws
pub mod Turns
pub mod ThePlan
