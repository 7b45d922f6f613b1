pub mod Numbers
pub mod Rules
pub mod Endpoint
pub mod Connection
pub mod Placed
