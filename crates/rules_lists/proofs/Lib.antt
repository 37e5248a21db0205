-- The theorems over the test of a list: exactly when it says what (Exact), that an accepted list is permitted throughout (Loaded), also when
-- each record is handed in and then taken (ByTurns), and examples.
pub mod Exact
pub mod Loaded
pub mod ByTurns
pub mod Examples
