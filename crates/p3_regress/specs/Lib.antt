pub mod Regressed
pub mod Sorted
pub mod Memory
pub mod Turned
pub mod Readers
pub mod Parts
pub mod Often
