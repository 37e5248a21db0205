-- Laws for the proofs of this crate: the rows that are left, and the three ends of the entry point.
mod Ends
