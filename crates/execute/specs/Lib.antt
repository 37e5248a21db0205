-- What the contracts of the crate `execute` speak of.
pub mod Executed
