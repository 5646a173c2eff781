pub mod LineLemmas
pub mod RowLemmas
pub mod ShareLaws
pub mod Worked
