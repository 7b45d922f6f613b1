pub mod Built
pub mod Cases
pub mod Ends
pub mod Forms
pub mod Laws
pub mod Views
