pub mod Assembled
pub mod Gadgets
pub mod Naming
pub mod Parts
pub mod Monitoring
