pub mod Lists
pub mod Hinted
