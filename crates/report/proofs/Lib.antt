-- Laws that the proofs of `report` cite.
-- Lines: the loop over the records. Examples: the definitions computed.
pub mod Lines
pub mod Examples
