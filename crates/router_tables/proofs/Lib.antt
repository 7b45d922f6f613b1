pub mod Points
pub mod DueSteps
pub mod AddSteps
pub mod EnterSteps
pub mod PrefixSets
pub mod Choices
pub mod ReadSteps
pub mod Rounds
