pub mod ChoiceLemmas
pub mod CostLemmas
pub mod FindLemmas
pub mod Gives
pub mod InitialLemmas
mod NameOrderLemmas
mod NumberLemmas
mod PlacedLemmas
pub mod ShortNumbers
pub mod ShortTasks
pub mod SpelledNumbers
pub mod StepLemmas
mod StepTableLemmas
mod TableLemmas
mod WordLemmas
