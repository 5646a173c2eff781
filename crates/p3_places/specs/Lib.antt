pub mod Machine
pub mod Places
pub mod Walks
pub mod Searches
