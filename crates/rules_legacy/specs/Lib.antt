-- The older terminals' lists, and the access rows that they become.
pub mod OldList
pub mod Conversion
