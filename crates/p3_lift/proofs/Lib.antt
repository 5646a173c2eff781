mod AnswerLaws
mod FaithfulLaws
mod LiftLaws
mod LossLaws
mod NameLaws
pub mod NumberLaws
mod PlainLaws
mod PlainTasks
mod StepLaws
