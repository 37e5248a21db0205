-- Laws for the proofs of `row_lookup`.
pub mod Found
