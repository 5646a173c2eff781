pub mod ExplainedLaws
pub mod FaultLemmas
pub mod ContentsLaws
pub mod JoinedLemmas
pub mod PutLemmas
pub mod QuantityLemmas
