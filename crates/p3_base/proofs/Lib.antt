pub mod CopiedLaws
pub mod CopyLemmas
pub mod CountedLemmas
pub mod NameLemmas
pub mod OperatorLaws
pub mod ShelfLemmas
pub mod TakenLemmas
pub mod TrajectoryLemmas
