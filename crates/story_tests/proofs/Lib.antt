pub mod HostileStories
