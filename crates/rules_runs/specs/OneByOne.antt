-- Records that are handed in and taken one by one: each take gives out the record that was handed in just before it.
-- So are the rows of a list loaded through hand-ins and takes (U10, U13).
use Rattle.std.specs.Prelude.{◌≡◌, List, [], ◌∷◌}
use Rattle.rules.specs.declared.Tables.{Tables}
use Rattle.rules.specs.declared.Table.TheVariants.{Creds}
use Rattle.rules.specs.declared.Check.TheVariants.{Pass}
use Rattle.rules.specs.Record.{Request}
use Rattle.rules.specs.Tables.{rows}
use Rattle.rules.specs.Defaults.{Defaults}
use Rattle.rules.specs.Checks.{verdict}
use Rattle.rules.specs.Promises.Groups.{sender_checks}
use Rattle.rules.specs.Outcome.{tables_after}
use Rattle.rules_terminal.specs.Inputs.{Input, hand_in, take_at}

-- each request has its record handed in, and taken at its clock with a buffer of its length
abbrev pub one_by_one : List Request → List Input
one_by_one [] = []
one_by_one (q ∷ qs) = hand_in q.bytes ∷ take_at q.clock q.capacity ∷ one_by_one qs

-- each record passes 2 to 7 in the tables that it meets
abbrev pub AllPass : Defaults → Tables → List Request → Type 0
AllPass d t [] = Unit {0}
AllPass d t (q ∷ qs) = (verdict (sender_checks (rows Creds t) q.bytes) ≡ Pass) × AllPass d (tables_after d t q) qs
