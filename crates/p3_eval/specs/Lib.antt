pub mod Accepted
pub mod Failing
pub mod Judged
pub mod Judging
pub mod Rising
pub mod Runs
pub mod Steps
