pub mod GoalLemmas
pub mod MisfitLemmas
pub mod PlacedLemmas
