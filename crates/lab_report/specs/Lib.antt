pub mod BadText
pub mod CheckText
pub mod Report
pub mod Traces
pub mod Summary
