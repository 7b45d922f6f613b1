pub mod Solved
pub mod Tables
pub mod Walks
