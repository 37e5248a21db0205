-- Laws for the proofs of this crate: the rows that are left (Files), and the four ends of the entry point (Ends).
mod Files
mod Ends
