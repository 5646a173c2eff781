pub mod Followed
pub mod Lines
pub mod Refusals
pub mod Touching
