pub mod LengthLemmas
pub mod PieceLemmas
