pub mod Choices
pub mod Copies
pub mod Questions
