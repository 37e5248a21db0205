-- Examples: each answer, and what each kind of record leaves of 'isolated'. Partner 5 is the owner, partner 7 a haulier.
use Rattle.rows.proofs.Prelude.{◌≡◌, refl, Bool, true, false, List, [], ◌∷◌, ◌++◌, map, ℕ, replicate}
use Rattle.rules.specs.declared.Tables.{Tables}
use Rattle.rules.specs.Directory.{some_security}
use Rattle.rules.specs.Record.{body}
use Rattle.rules.specs.Tables.{with_state}
use Rattle.rules.specs.Defaults.{no_defaults, fresh}
use Rattle.rules.specs.Action.{action}
use Rattle.rules.specs.Outcome.{tables_after}
use Rattle.rules.specs.Isolation.{names_owner, row_alters, may_fit, may_alter}
use Rattle.rules.proofs.Samples.{samples, lent, answer, cred_row, with_creds, serving, ace_row, ace_body, weight, connected, haulier_row, haulier, yard}
use Rattle.rules_isolation.specs.declared.Isolation.{Isolation}
use Rattle.rules_isolation.specs.declared.Isolation.TheVariants.{Isolated, OddLength, Unsound, NoOwner, NamesOwner, MayAlter}
use Rattle.rules_isolation.specs.Question.{odd_length, anonymous, sender_of, chosen_by, lacks_owner, altering_number}
use Rattle.rules_isolation.specs.Question.{entry_answer, entries_answer, isolation_of}
use Rattle.rules_isolation.specs.Service.{endangers}

-- `unfolding question` opens all that the question says, with the samples
unfoldable pub question : Unit {0}
unfolding samples names_owner row_alters may_fit may_alter some_security odd_length anonymous sender_of chosen_by lacks_owner altering_number
    entry_answer entries_answer isolation_of
question = tt

-- ---- the answers

-- of a yard: nobody; the haulier; the unauthenticated; both; the owner; the haulier and the owner; a byte too many
pub question_answers :
    map (isolation_of yard)
    ([]
    ∷ (0 ∷ 7 ∷ [])
    ∷ (0 ∷ 0 ∷ [])
    ∷ (0 ∷ 7 ∷ 0 ∷ 0 ∷ [])
    ∷ (0 ∷ 5 ∷ [])
    ∷ (0 ∷ 7 ∷ 0 ∷ 5 ∷ [])
    ∷ (0 ∷ 7 ∷ 0 ∷ [])
    ∷ [])
    ≡ Isolated ∷ Isolated ∷ Isolated ∷ Isolated ∷ NamesOwner 1 ∷ NamesOwner 2 ∷ OddLength ∷ []
unfolding question
question_answers = refl

-- of fresh tables: nobody, and the unauthenticated; of tables in a state that there is not
pub fresh_answers :
    isolation_of (fresh no_defaults) [] ∷ isolation_of (fresh no_defaults) (0 ∷ 0 ∷ []) ∷ isolation_of (with_state yard 5) (0 ∷ 7 ∷ []) ∷ []
    ≡ Isolated ∷ NoOwner ∷ Unsound ∷ []
unfolding question
fresh_answers = refl

-- an access row for role 9, to update pstat
unfoldable pub state_by_role : ℕ → List ℕ
state_by_role n = ace_body n 1 4 0 (0x40 ∷ replicate 7 0) (replicate 15 0 ++ (9 ∷ []))

-- every partner may read resource 8; role 9 could update pstat in the first second of 1970; the unauthenticated may delete access rows
unfoldable pub loose : Tables
loose =
    with_creds
    (serving (
    ace_row 1 2 2 0 weight (connected 1)
    ∷ (state_by_role 2 ++ replicate 8 0)
    ∷ ace_row 3 2 8 0 (0x10 ∷ replicate 7 0) (connected 0)
    ∷ []))
    (cred_row 5 ∷ haulier_row 7 ∷ [])

-- the haulier might assert that role, and so might a partner without a row; the unauthenticated have the last row
pub loose_answers :
    map (isolation_of loose) ((0 ∷ 7 ∷ []) ∷ (0 ∷ 200 ∷ []) ∷ (0 ∷ 0 ∷ []) ∷ []) ≡ MayAlter 1 2 ∷ MayAlter 1 2 ∷ MayAlter 1 3 ∷ []
unfolding question state_by_role loose
loose_answers = refl

-- ---- records of the owner, in SRESET: the answer, whether it endangers the haulier, and what is answered of him afterwards

unfoldable pub after_owner : List ℕ → ℕ × Bool × Isolation
after_owner r =
    let t = with_state yard 4 in
    (answer t r, endangers (chosen_by (0 ∷ 7 ∷ [])) (body r) (action r), isolation_of (tables_after no_defaults t (lent r)) (0 ∷ 7 ∷ []))

-- each kind of record that endangers can end it: RESET; the row owner of pstat; the device owner;
-- the haulier's credential row with the owner's subject; an access row for a role
pub endings :
    map after_owner
    ((0x50 ∷ 0x40 ∷ 0x00 ∷ 0x05 ∷ 0x00 ∷ [])
    ∷ (0x50 ∷ 0x40 ∷ 0x00 ∷ 0x05 ∷ haulier)
    ∷ (0x50 ∷ 0x00 ∷ 0x00 ∷ 0x05 ∷ 0x80 ∷ haulier)
    ∷ (0x50 ∷ 0x80 ∷ 0x00 ∷ 0x05 ∷ cred_row 7)
    ∷ (0x50 ∷ 0xc0 ∷ 0x00 ∷ 0x05 ∷ state_by_role 9)
    ∷ [])
    ≡ (0, true, NoOwner) ∷ (0, true, NamesOwner 1) ∷ (0, true, NamesOwner 1) ∷ (0, true, NamesOwner 1) ∷ (0, true, MayAlter 1 3) ∷ []
unfolding question after_owner state_by_role
endings = refl

-- and these do not: a move to RFPRO; another partner's credential row, even with the haulier's subject; an access row for applications;
-- the haulier's credential row deleted; every access row deleted
pub harmless_records :
    map after_owner
    ((0x50 ∷ 0x40 ∷ 0x00 ∷ 0x05 ∷ 0x40 ∷ [])
    ∷ (0x50 ∷ 0x80 ∷ 0x00 ∷ 0x05 ∷ haulier_row 9)
    ∷ (0x50 ∷ 0xc0 ∷ 0x00 ∷ 0x05 ∷ ace_row 9 1 31 7 weight (replicate 15 0 ++ (9 ∷ [])))
    ∷ (0x70 ∷ 0x80 ∷ 0x00 ∷ 0x05 ∷ 0x00 ∷ 0x07 ∷ [])
    ∷ (0x70 ∷ 0xc0 ∷ 0x00 ∷ 0x05 ∷ [])
    ∷ [])
    ≡ (0, false, Isolated) ∷ (0, false, Isolated) ∷ (0, false, Isolated) ∷ (0, false, Isolated) ∷ (0, false, Isolated) ∷ []
unfolding question after_owner
harmless_records = refl
