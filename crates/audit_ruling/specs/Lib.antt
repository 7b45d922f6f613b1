pub mod Rulings
pub mod Senders
pub mod Named
