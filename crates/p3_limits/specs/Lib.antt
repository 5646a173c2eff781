pub mod Bounds
pub mod Cuts
pub mod Dear
pub mod Excess
pub mod Least
pub mod Preferences
pub mod Sizes
pub mod Weights
