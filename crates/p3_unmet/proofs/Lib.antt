pub mod BindingLaws
pub mod SketchLaws
pub mod StageLaws
pub mod ReasonLaws
pub mod NameLaws
pub mod NamedLaws
pub mod HeadingLaws
pub mod UnmetLaws
