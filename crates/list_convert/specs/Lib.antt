-- The answers' numbers (Answers).
pub mod Answers
