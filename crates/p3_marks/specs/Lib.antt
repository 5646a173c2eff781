pub mod Marks
pub mod Reasons
pub mod Marked
