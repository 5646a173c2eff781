pub mod Conditions
pub mod Copies
pub mod Flattened
pub mod Plans
pub mod Splitting
pub mod Worked
