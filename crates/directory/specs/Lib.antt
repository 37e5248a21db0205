-- What the contracts of `directory` say of its table's rows.
pub mod Row
