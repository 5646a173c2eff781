pub mod DraftLemmas
pub mod LineLemmas
pub mod PlanLaws
pub mod ReadLemmas
pub mod SliceLemmas
pub mod StepLemmas
pub mod WrittenLemmas
