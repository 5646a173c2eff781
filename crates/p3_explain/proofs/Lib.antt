pub mod WalkLaws
pub mod StandsLaws
pub mod FaultLaws
pub mod ExplainLaws
pub mod NamingLaws
pub mod NamingLemmas
