pub mod Sets
mod Slots
