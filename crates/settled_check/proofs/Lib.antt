pub mod Firsts
mod Actors
mod Worlds
