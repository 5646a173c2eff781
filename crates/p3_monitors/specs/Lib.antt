pub mod FormIndex
pub mod Guards
pub mod KeepsOn
pub mod Riders
pub mod Updates
