pub mod Results
pub mod Worked
pub mod Laws
