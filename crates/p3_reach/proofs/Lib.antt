pub mod DerivedLaws
pub mod GrownLaws
pub mod LeadLaws
pub mod MayGrows
pub mod MayLemmas
pub mod ModelLaws
pub mod ReachLaws
pub mod RuleLaws
