-- What the contracts of `queue` ask of the queue's bytes, and what its view reads.
pub mod Queue
pub mod Viewed
