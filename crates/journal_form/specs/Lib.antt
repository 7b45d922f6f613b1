pub mod Journals
pub mod Numbers
pub mod Reading
