-- What the contracts of `vectors` speak of.
-- Left: the bytes that a walk over the entries has still to read. Held: what the terminal holds that the entries are put to.
pub mod Left
pub mod Held
