-- What the contracts of the crate `check_header` speak of.
pub mod Fields
