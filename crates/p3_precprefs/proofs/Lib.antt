pub mod JoinedLaws
pub mod CopyLemmas
pub mod PatternLemmas
pub mod NameLaws
pub mod LinkLaws
pub mod TurnLaws
pub mod ChainLaws
pub mod ChainAtoms
