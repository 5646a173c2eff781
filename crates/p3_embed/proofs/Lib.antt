pub mod ActionLists
pub mod CountingLaws
pub mod FitLaws
pub mod PlanLaws
pub mod TakenLaws
pub mod WalkLaws
