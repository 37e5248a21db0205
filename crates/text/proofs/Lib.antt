-- Laws that the proofs of `text`, and of the crates over it, cite.
-- Decimals: a number's digits. Buffers: texts put one after the other. Examples: the definitions computed.
pub mod Decimals
pub mod Buffers
pub mod Examples
