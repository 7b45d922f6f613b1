pub mod Values
pub mod Check
pub mod Run
pub mod Traces
pub mod Summary
pub mod Worked
pub mod Tokens
