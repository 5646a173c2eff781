pub mod Closed
pub mod Derived
pub mod Grown
pub mod May
pub mod Models
pub mod Rules
