pub mod Following
pub mod Lines
pub mod Violations
pub mod Watching
