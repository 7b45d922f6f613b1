pub mod Caps
pub mod Faults
pub mod Fields
pub mod Sets
pub mod Written
