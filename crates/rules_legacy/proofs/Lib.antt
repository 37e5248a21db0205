-- That the rows made give what the old rows gave (Made, SameUnion), that an access list holds them (Numbered, Stored),
-- the answers (Answered), tables that hold them (Held), the test of U10 on them and their loading (Tested, TakenOver), examples.
pub mod BitParts
pub mod Made
pub mod Numbered
pub mod SameUnion
pub mod Stored
pub mod Answered
pub mod Held
pub mod Tested
pub mod TakenOver
pub mod Examples
