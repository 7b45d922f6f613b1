mod Segments
mod Rows
mod Heads
mod Begins
mod Given
