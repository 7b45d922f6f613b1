mod Greatest
mod Earlier
mod Names
mod Moving
mod First
mod Deciding
mod Passing
mod DeedMoves
pub mod Folds
