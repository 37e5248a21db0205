-- The test of a list that the provisioning program writes (U10), over typed access rows: accepted with 0, or the first bad row from 1.
-- A row of the file is read as an access row, or is none where no body could store it.
use Rattle.std.specs.Prelude.{ℕ, suc, ◌/◌, ◌%◌, Bool, true, false, not, ◌&&◌, ◌||◌, List, [], ◌∷◌, ◌++◌, map, eqb, ltb, length}
use Rattle.rows.specs.Rows.{rows_of}
use Rattle.rules_typed.specs.Lists.{Maybe, none, just, any}
use Rattle.rules_typed.specs.Types.{Bytes, Answer, Subject, IsUuid, HasRole, IsConnection, Access, Verdict, Permitted, Refused}
use Rattle.rules_typed.specs.Tables.{same_access}
use Rattle.rules_typed.specs.Reading.{read_access}
use Rattle.rules_typed.specs.Isolation.{row_alters}
use Rattle.rules_typed.specs.Checks.{verdict}
use Rattle.rules_lists.specs.declared.Tested.{Tested}

-- ---- the faults

-- 19: a length that is not a multiple of 36, or exceeds 32 rows
abbrev pub bad_length : ℕ → Bool
bad_length n = not (eqb (n % 36) 0) || ltb 32 (n / 36)

-- a role or a connection: whoever has it. A UUID is for the credential rows with that subject
abbrev pub is_shared : Subject → Bool
is_shared (IsUuid u) = false
is_shared (HasRole r) = true
is_shared (IsConnection c) = true

-- 20: the row repeats an earlier number; 21: it gives create, update or delete on a security resource to a role or a connection
abbrev pub row_checks : List Access → Access → List (Answer × Bool)
row_checks earlier a = (20, any (same_access a) earlier) ∷ (21, is_shared a.subject && row_alters a) ∷ []

-- ---- the result

abbrev pub tested : Answer → ℕ → Tested
tested answer row = record { answer = answer; row = row }

-- a refusal names this row; if it passes, the rest is the answer
abbrev pub or_rest : Verdict → ℕ → Tested → Tested
or_rest Permitted row rest = rest
or_rest (Refused n) row rest = tested n row

-- 20 also for a row that could not be stored
unfoldable pub test_rows : List Access → List (Maybe Access) → Tested
test_rows earlier [] = tested 0 0
test_rows earlier (none ∷ rows) = tested 20 (suc (length earlier))
test_rows earlier (just a ∷ rows) = or_rest (verdict (row_checks earlier a)) (suc (length earlier)) (test_rows (earlier ++ a ∷ []) rows)

-- of a file: 19 first, with row 0
unfoldable pub test_list : Bytes → Tested
test_list file = or_rest (verdict ((19, bad_length (length file)) ∷ [])) 0 (test_rows [] (map read_access (rows_of 36 (length file / 36) file)))
