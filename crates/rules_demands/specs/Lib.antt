-- The demands as they are stated over the rules as one reads them (rules/specs).
pub mod Demands
