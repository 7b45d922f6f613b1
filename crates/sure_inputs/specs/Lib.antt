pub mod Sure
pub mod Laws
