-- The access rows that an old list becomes (U12), and the answer to a call for them, with the caller's buffer afterwards.
use Rattle.std.specs.Prelude.{ℕ, ◌+◌, ◌*◌, suc, zero, ◌≡◌, Bool, cond, false, List, [], ◌∷◌, ◌++◌, ltb, length, replicate}
use Rattle.rows.specs.Rows.{Row, joined}
use Rattle.rules.specs.declared.Table.TheVariants.{Aces}
use Rattle.rules.specs.declared.Check.{Check}
use Rattle.rules.specs.declared.Check.TheVariants.{Pass, Refuse}
use Rattle.rules.specs.Bits.{be16}
use Rattle.rules.specs.Bodies.{every_second}
use Rattle.rules.specs.Tables.{capacity}
use Rattle.rules.specs.Checks.{verdict}
use Rattle.rules_legacy.specs.OldList.{old_subject, old_permission, old_set, is_anybody, old_rows, bad_file}
use Rattle.rules.specs.Types.{Bytes, Checklist, Connection, Number, Size}

-- ---- an access row without its number

-- the subject's kind, the old permission, no wildcards, the old set, the subject, every second
unfoldable pub entry : ℕ → Bytes → Row → Bytes
entry kind subject old = (kind * 64 + old_permission old * 2) ∷ 0 ∷ (old_set old ++ (subject ++ every_second))

unfoldable pub uuid_entry : Row → Bytes
uuid_entry old = entry 0 (old_subject old) old

-- a connection as a subject: in the last bit, with zeros before
abbrev pub connection_subject : Connection → Bytes
connection_subject connection = replicate 15 0 ++ (connection ∷ [])

unfoldable pub connection_entry : Connection → Row → Bytes
connection_entry connection old = entry 2 (connection_subject connection) old

-- ---- the rows made

-- of an old row: "*" becomes two, auth-crypt first
unfoldable pub entries_of : Row → List Bytes
entries_of old = cond (is_anybody old) (connection_entry 1 old ∷ connection_entry 0 old ∷ []) (uuid_entry old ∷ [])

-- of all, in their order
unfoldable pub all_entries : List Row → List Bytes
all_entries [] = []
all_entries (old ∷ olds) = entries_of old ++ all_entries olds

-- numbered from this number on
unfoldable pub numbered_from : Number → List Bytes → List Row
numbered_from number [] = []
numbered_from number (entry ∷ entries) = (be16 number ++ entry) ∷ numbered_from (number + 1) entries

-- of a file: numbered from 1
unfoldable pub rows_made : Bytes → List Row
rows_made file = numbered_from 1 (all_entries (old_rows file))

-- ---- the answer, and the bytes that are given out

-- more rows than an access list holds
unfoldable pub too_many_rows : Bytes → Bool
too_many_rows file = ltb (capacity Aces) (length (rows_made file))

unfoldable pub buffer_too_short : Bytes → Size → Bool
buffer_too_short file capacity = ltb capacity (length (joined (rows_made file)))

abbrev pub conversion_checks : Bytes → Size → Checklist
conversion_checks file capacity = (23, bad_file file) ∷ (24, too_many_rows file) ∷ (25, buffer_too_short file capacity) ∷ []

unfoldable pub conversion_verdict : Bytes → Size → Check
conversion_verdict file capacity = verdict (conversion_checks file capacity)

-- the rows, or none after a refusal
abbrev pub handed_out : Bytes → Check → Bytes
handed_out file Pass = joined (rows_made file)
handed_out file (Refuse n) = []

unfoldable pub conversion_reply : Bytes → Size → Bytes
conversion_reply file capacity = handed_out file (conversion_verdict file capacity)

-- no check applies, and the rows are given out
pub record Converted (f : List ℕ) (capacity : ℕ) : Type 0 where
  pub good : bad_file f ≡ false
  pub few : too_many_rows f ≡ false
  pub fits : buffer_too_short f capacity ≡ false
  pub response : conversion_reply f capacity ≡ joined (rows_made f)

-- that many numbers, from i on
abbrev pub numbers_from : Number → Size → List Number
numbers_from i zero = []
numbers_from i (suc k) = i ∷ numbers_from (i + 1) k
