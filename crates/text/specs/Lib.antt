-- What the contracts of the crate `text` speak of.
-- Text: texts as bytes. Buffer: a buffer after a text was put into it.
pub mod Text
pub mod Buffer
