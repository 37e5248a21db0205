-- What the contracts of the crate `check_state` speak of.
pub mod Columns
