-- What the contracts of `terminal` cite beside the rules.
pub mod Memory
