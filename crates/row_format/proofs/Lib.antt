-- Laws for the proofs of `row_format`.
pub mod Laws
