pub mod Places
pub mod Arguments
pub mod Values
pub mod Reasons
pub mod Headings
pub mod Worked
