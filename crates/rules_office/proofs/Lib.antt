-- That the office text tells lists of rows apart: texts that end by themselves (Codes, Decimals), rows by their fields (Agree), subjects, then rows and lists.
-- And how long it gets (Bounds), and of which bytes it is made (Visible).
pub mod Codes
mod Decimals
pub mod Agree
mod Subjects
pub mod Injective
pub mod Bounds
pub mod Visible
pub mod Examples
