-- The result of a test, by what is reported of the list (Answers).
pub mod Answers
