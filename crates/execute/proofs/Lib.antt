-- Laws for the proofs of this crate, and of a record that is not executed.
mod Laws
mod QueueLaws
pub mod TurnedAway
