-- Laws for the proofs of this crate.
mod RowBytes
mod Short
