pub mod Lexing
pub mod StepWords
pub mod Words
