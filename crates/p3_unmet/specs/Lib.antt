pub mod Bindings
pub mod Sources
pub mod Unmet
pub mod Sketches
pub mod Stages
