-- What the contracts of `queue_turn` cite.
pub mod Turns
