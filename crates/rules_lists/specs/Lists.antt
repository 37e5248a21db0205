-- The test of a list that the provisioning program writes (U10): a file of access rows of 36 bytes, one after the other.
-- The size comes first; then row by row whether the row could be stored, and after it what the row gives.
use Rattle.std.specs.Prelude.{Result, suc, ◌/◌, ◌%◌, Bool, not, ◌&&◌, ◌||◌, List, [], ◌∷◌, ◌++◌, eqb, ltb, length}
use Rattle.std.specs.declared.result.Result.TheVariants.{Ok, Err}
use Rattle.rows.specs.Rows.{Row, rows_of, some, numbered_as}
use Rattle.rules.specs.declared.Check.{Check}
use Rattle.rules.specs.declared.Check.TheVariants.{Pass, Refuse}
use Rattle.rules.specs.declared.Table.TheVariants.{Aces}
use Rattle.rules.specs.Bodies.{ace_kind}
use Rattle.rules.specs.Tables.{stride, capacity, storable}
use Rattle.rules.specs.Checks.{refuse_if, verdict}
use Rattle.rules.specs.Isolation.{row_alters}
use Rattle.rules_lists.specs.declared.ListError.{ListError}
use Rattle.rules_lists.specs.declared.ListError.TheVariants.{BadSize, BadRow}
use Rattle.rules_lists.specs.declared.Tested.{Tested}
use Rattle.rules.specs.Types.{Answer, Bytes, Checklist, Number}

-- the whole rows of a list
abbrev pub listed : Bytes → List Row
listed list = rows_of (stride Aces) (length list / stride Aces) list

-- 19: no whole number of rows, or more than there is room for
unfoldable pub bad_size : Bytes → Bool
bad_size list = not (eqb (length list % stride Aces) 0) || ltb (capacity Aces) (length list / stride Aces)

-- 20: the row could not be stored, or repeats an earlier number
unfoldable pub unfit : List Row → Row → Bool
unfit earlier ace = not (storable Aces ace) || some (numbered_as ace) earlier

-- 21: create, update or delete on a security resource, given to a role or a connection, for whatever period
unfoldable pub excessive : Row → Bool
excessive ace = (eqb (ace_kind ace) 1 || eqb (ace_kind ace) 2) && row_alters ace

-- the checks of a row, in their order
abbrev pub row_checks : List Row → Row → Checklist
row_checks earlier ace = (20, unfit earlier ace) ∷ (21, excessive ace) ∷ []

-- ---- the result

abbrev pub tested : Answer → Number → Tested
tested answer row = record { answer = answer; row = row }

abbrev pub accepted : Tested
accepted = tested 0 0

-- of what the code answers
abbrev pub tested_of : Result (Unit {0}) ListError → Tested
tested_of (Ok unit) = accepted
tested_of (Err BadSize) = tested 19 0
tested_of (Err (BadRow fault row)) = tested fault row

-- a refusal names this row; if the row passes, the rest is the answer
abbrev pub named_or : Check → Number → Tested → Tested
named_or Pass row rest = rest
named_or (Refuse n) row rest = tested n row

-- of rows that are after the earlier ones; rows are counted from 1
unfoldable pub rows_tested : List Row → List Row → Tested
rows_tested earlier [] = accepted
rows_tested earlier (ace ∷ aces) = named_or (verdict (row_checks earlier ace)) (suc (length earlier)) (rows_tested (earlier ++ (ace ∷ [])) aces)

unfoldable pub list_tested : Bytes → Tested
list_tested list = named_or (refuse_if 19 (bad_size list)) 0 (rows_tested [] (listed list))
