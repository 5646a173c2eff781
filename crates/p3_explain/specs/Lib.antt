pub mod Explaining
pub mod Walked
pub mod Naming
