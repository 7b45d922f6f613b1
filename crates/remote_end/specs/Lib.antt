pub mod Remotes
pub mod RemoteInner
