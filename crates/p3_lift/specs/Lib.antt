pub mod Judging
pub mod Lifting
pub mod Plain
pub mod Told
