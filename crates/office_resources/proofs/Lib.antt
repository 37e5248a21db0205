-- Laws for the proofs of this crate: the choices of a row.
mod Chosen
