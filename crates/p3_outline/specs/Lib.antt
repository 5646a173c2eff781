pub mod Texts
pub mod Nodes
pub mod Balances
pub mod Builds
pub mod Outlines
pub mod Numbers
pub mod Constructs
pub mod First
