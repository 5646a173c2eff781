pub mod TokenLemmas
pub mod WordLemmas
pub mod MarkLemmas
pub mod StepWords
pub mod ClassLemmas
