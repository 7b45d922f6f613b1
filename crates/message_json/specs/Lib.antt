pub mod Attrs
pub mod Messages
