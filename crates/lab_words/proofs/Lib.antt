pub mod Accepted
pub mod Answers
pub mod Lines
pub mod Rows
pub mod Values
