-- Examples of rows that go: deletes by subject (U3), and the places that deletes report (U4).
-- All on the same table, two rows of a haulier between others.
use Rattle.rows.proofs.Prelude.{◌≡◌, refl, List, [], ◌∷◌, ℕ, replicate}
use Rattle.rules.specs.declared.Tables.{Tables}
use Rattle.rules.specs.Record.{Request}
use Rattle.rules.specs.Bodies.{nil}
use Rattle.rules.specs.Defaults.{no_defaults}
use Rattle.rules.specs.declared.StoreRange.{StoreRange}
use Rattle.rules.specs.StoreRange.{no_range}
use Rattle.rules.specs.Outcome.{response_to, tables_after}
use Rattle.rules.proofs.Samples.{samples, lent, answer, cred_row, with_creds, owned5, haulier_row}

-- ---- delete by subject (U3): two rows of a haulier between others; the order of the rest is kept

-- state 2, the owner in row 5
unfoldable pub several : Tables
several = with_creds owned5 (haulier_row 3 ∷ cred_row 5 ∷ haulier_row 4 ∷ cred_row 6 ∷ [])

-- DELETE by the owner with this body
unfoldable pub deletes : List ℕ → Request
deletes b = lent (0x70 ∷ 0x80 ∷ 0x00 ∷ 0x05 ∷ b)

pub subject_deleted : tables_after no_defaults several (deletes (replicate 16 0x22)) ≡ with_creds several (cred_row 5 ∷ cred_row 6 ∷ [])
unfolding samples several deletes
subject_deleted = refl

-- a haulier's rows; nobody's; nil; and of acl2, which takes no subject
pub subject_answers :
    (response_to no_defaults several (deletes (replicate 16 0x22))).answer
    ∷ (response_to no_defaults several (deletes (replicate 16 0x33))).answer
    ∷ (response_to no_defaults several (deletes nil)).answer
    ∷ answer several (0x70 ∷ 0xc0 ∷ 0x00 ∷ 0x05 ∷ replicate 16 0x22)
    ∷ []
    ≡ 0 ∷ 13 ∷ 10 ∷ 10 ∷ []
unfolding samples several deletes
subject_answers = refl

-- ---- places (U4): of the same deletes, of one row by its number, of all rows, of all rows of an empty table, and of a row that is not there

pub store_range : ℕ → ℕ → StoreRange
store_range first count = record { first = first; count = count }

pub ranges_given :
    (response_to no_defaults several (deletes (replicate 16 0x22))).store
    ∷ (response_to no_defaults several (deletes (0x00 ∷ 0x04 ∷ []))).store
    ∷ (response_to no_defaults several (deletes (0x00 ∷ 0x06 ∷ []))).store
    ∷ (response_to no_defaults several (deletes [])).store
    ∷ (response_to no_defaults several (lent (0x70 ∷ 0xc0 ∷ 0x00 ∷ 0x05 ∷ []))).store
    ∷ (response_to no_defaults several (deletes (0x00 ∷ 0x09 ∷ []))).store
    ∷ []
    ≡ store_range 0 4 ∷ store_range 2 2 ∷ store_range 3 1 ∷ store_range 0 4 ∷ no_range ∷ no_range ∷ []
unfolding samples several deletes store_range
ranges_given = refl
