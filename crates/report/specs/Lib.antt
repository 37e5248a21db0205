-- What the contracts of the crate `report` speak of.
-- Run: the text of a run. Records: what the iterator over its records gives. Judged: a record of one.
-- Fits: how many bytes the text takes at most.
pub mod Run
pub mod Records
pub mod Judged
pub mod Fits
