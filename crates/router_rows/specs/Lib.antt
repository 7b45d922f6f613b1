pub mod Laboratory
