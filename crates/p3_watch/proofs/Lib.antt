pub mod AnswerLemmas
pub mod BlockLemmas
pub mod EvaluatedLemmas
pub mod FollowLemmas
pub mod LineLemmas
pub mod NumberLemmas
pub mod OffsetLemmas
pub mod PlaceLemmas
