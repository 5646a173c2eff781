pub mod Constructs
pub mod Counts
pub mod First
pub mod Flat
pub mod Malformed
pub mod Metric
pub mod Places
pub mod Texts
