-- Examples of default rows (U5): good lists come back with a clear and with RESET; a bad list counts as none, wholly and by itself.
-- What is deleted stays away until the next RESET.
use Rattle.rows.proofs.Prelude.{◌≡◌, refl, [], ◌∷◌, ◌++◌, replicate}
use Rattle.rules.specs.declared.Tables.{Tables}
use Rattle.rules.specs.declared.Table.TheVariants.{Creds, Aces}
use Rattle.rules.specs.Tables.{with_rows, empty}
use Rattle.rules.specs.Defaults.{Defaults, default_rows, fresh}
use Rattle.rules.specs.Outcome.{tables_after}
use Rattle.rules.proofs.DeleteExamples.{several, deletes}
use Rattle.rules.proofs.Samples.{samples, lent, uuid, cred_row, with_creds, ace_row, weight, haulier_row}

pub build : Defaults
build = record { creds = cred_row 5 ++ haulier_row 7; aces = ace_row 1 0 2 0 weight uuid }

pub good_lists : fresh build ≡ with_rows Aces (with_creds empty (cred_row 5 ∷ haulier_row 7 ∷ [])) (ace_row 1 0 2 0 weight uuid ∷ [])
unfolding samples build
good_lists = refl

-- three rows; a number twice; a row that no body could store; half a row more
pub bad_lists :
    default_rows Creds (cred_row 1 ++ cred_row 2 ++ cred_row 3)
    ∷ default_rows Creds (cred_row 1 ++ haulier_row 1)
    ∷ default_rows Creds (cred_row 1 ++ replicate 23 0)
    ∷ default_rows Creds (cred_row 1 ++ (0 ∷ 9 ∷ []))
    ∷ []
    ≡ [] ∷ [] ∷ [] ∷ [] ∷ []
unfolding samples
bad_lists = refl

pub one_bad_list : fresh (record { creds = cred_row 1 ++ cred_row 1; aces = ace_row 1 0 2 0 weight uuid }) ≡ with_rows Aces empty (ace_row 1 0 2 0 weight uuid ∷ [])
unfolding samples
one_bad_list = refl

-- a row deleted, and then RESET by the owner: the build's rows are back
pub reset_restores : tables_after build (tables_after build several (deletes (0x00 ∷ 0x03 ∷ []))) (lent (0x50 ∷ 0x40 ∷ 0x00 ∷ 0x05 ∷ 0x00 ∷ [])) ≡ fresh build
unfolding samples build several deletes
reset_restores = refl

-- all rows deleted by whoever is at a terminal without an owner: the default rows are free too
pub emptied : Tables
emptied = tables_after build (tables_after build (fresh build) (lent (0x60 ∷ 0x80 ∷ 0x00 ∷ 0x00 ∷ []))) (lent (0x60 ∷ 0xc0 ∷ 0x00 ∷ 0x00 ∷ []))

pub defaults_deleted : emptied ≡ empty
unfolding samples emptied build
defaults_deleted = refl

-- until the next RESET
pub defaults_back : tables_after build emptied (lent (0x40 ∷ 0x40 ∷ 0x00 ∷ 0x00 ∷ 0x00 ∷ [])) ≡ fresh build
unfolding samples emptied build
defaults_back = refl
