pub mod AtomTexts
pub mod CopyText
pub mod DomainText
pub mod Layout
pub mod TaskOf
pub mod Texts
pub mod Written
