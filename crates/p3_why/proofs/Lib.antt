pub mod EndingLemmas
pub mod NameLemmas
pub mod PlanLemmas
