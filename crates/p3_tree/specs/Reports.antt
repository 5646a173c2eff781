pub mod Explanations
pub mod Lines
pub mod Plans
pub mod Quantities
pub mod Refusals
pub mod Tasks
pub mod Watching
