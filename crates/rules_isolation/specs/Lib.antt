-- The question and its answer (Question), what each answer says (Answers), what can end isolation in service (Service), and yards next to each other (Yards).
pub mod Question
pub mod Service
pub mod Yards
pub mod Answers
