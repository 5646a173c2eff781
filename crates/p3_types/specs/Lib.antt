pub mod Checks
pub mod Costs
pub mod Finds
pub mod FirstSteps
pub mod NameOrders
pub mod Parts
pub mod Tables
pub mod Texts
