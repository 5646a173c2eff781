pub mod Befores
pub mod Drafts
pub mod Laws
pub mod Layout
pub mod Lines
pub mod Steps
