pub mod ActionLemmas
pub mod EndLemmas
pub mod MoveLemmas
pub mod WholeLemmas
