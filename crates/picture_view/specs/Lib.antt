pub mod Axes
pub mod Elements
pub mod Heads
pub mod Picture
pub mod Plans
pub mod Positions
pub mod Shapes
pub mod Worked
