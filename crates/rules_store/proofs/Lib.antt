-- Laws: what a write does to the parts of a store (Parts), the first byte that differs (Mismatch), a run byte by byte (Run).
-- Theorems: each step (Steps), attempts (Safe), whole runs (Ends), histories (Again); and examples.
pub mod Parts
pub mod Mismatch
pub mod Steps
pub mod Safe
pub mod Run
pub mod Ends
pub mod Again
pub mod Examples
