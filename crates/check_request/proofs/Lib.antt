-- Laws for the proofs of `check_request`.
pub mod OneBit
