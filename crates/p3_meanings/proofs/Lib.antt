pub mod SaidLemmas
pub mod StepLemmas
pub mod AtomLemmas
pub mod SceneLemmas
pub mod GroundLemmas
pub mod NumberedLaws
pub mod Worked
