-- What the contracts of the crate `vectors_reader` speak of.
-- Reader: the tables of a file of test vectors. Tally: what is counted of its entries.
pub mod Reader
pub mod Tally
