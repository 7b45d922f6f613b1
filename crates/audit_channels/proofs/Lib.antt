pub mod Empties
mod Sendings
