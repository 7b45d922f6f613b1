pub mod Expect
pub mod Worked
