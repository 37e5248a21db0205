-- Words that no rule needs. For contracts: the caller's bytes before and after a call (Words), the default lists (Supplied), what code gives back (Results),
-- the groups of checks that code works in (Groups), who calls (Callers), what is decided (Decision), keys (Keys), what a subject names (Kinds).
-- For theorems: Theorems, Storing.
pub mod Words
pub mod Supplied
pub mod Results
pub mod Groups
pub mod Callers
pub mod Decision
pub mod Keys
pub mod Kinds
pub mod Theorems
pub mod Storing
