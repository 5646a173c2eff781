pub mod Kinds
pub mod Objects
pub mod Walks
pub mod Nexts
pub mod Reaches
pub mod Spans
pub mod Typings
