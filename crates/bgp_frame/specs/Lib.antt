pub mod Next
pub mod Streams
