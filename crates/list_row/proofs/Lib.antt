-- Laws for the proofs of this crate: an old row's bytes.
mod OldRows
