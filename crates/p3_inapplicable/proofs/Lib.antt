pub mod WordingLemmas
pub mod SplitLemmas
pub mod MisfitLemmas
pub mod ArgumentLemmas
pub mod ValueLemmas
pub mod ReasonLemmas
pub mod Worked
