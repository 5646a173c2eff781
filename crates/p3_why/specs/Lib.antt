pub mod Accounts
pub mod Asked
pub mod Ending
pub mod Names
pub mod Questions
pub mod Run
