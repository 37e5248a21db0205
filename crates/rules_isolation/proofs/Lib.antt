-- The theorems over the question: when it is answered how (Exact), what a record leaves of it (Kept) and how its header tells (Updates),
-- isolation in service (InService), yards (Separate), the same of the built code (BuiltYards), and examples (SampleAnswers, SampleMorning).
pub mod Exact
pub mod Kept
pub mod Updates
pub mod InService
pub mod Separate
pub mod BuiltYards
pub mod SampleAnswers
pub mod SampleMorning
