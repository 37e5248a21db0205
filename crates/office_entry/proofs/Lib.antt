-- Laws for the proofs of this crate: texts put one after the other.
mod Parts
