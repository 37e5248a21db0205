-- Laws for the proofs of `check_tables`.
pub mod CutShort
