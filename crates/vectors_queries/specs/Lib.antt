-- What the contracts of `vectors_queries` speak of.
-- Left: the bytes that a walk over the entries has still to read.
pub mod Left
