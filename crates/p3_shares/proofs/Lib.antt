pub mod BoundLemmas
pub mod RunLemmas
pub mod ShareLemmas
