-- Laws for the proofs of the functions.
-- Offsets: the first offset at which two images differ. Bytes: sums of bytes.
mod Offsets
mod Bytes
