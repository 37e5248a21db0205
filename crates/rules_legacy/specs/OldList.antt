-- An access list of the older terminals (U12), a file in the earlier /oic/sec/acl form: its rows, what they gave, and when it is bad.
-- From the request and only rule 1 of 'Permission': nothing here knows an access row.
use Rattle.std.specs.Prelude.{ℕ, ◌+◌, ◌/◌, ◌%◌, Bool, cond, not, ◌&&◌, ◌||◌, List, [], eqb, length, take, drop}
use Rattle.rows.specs.Rows.{Row, rows_of, same, some, union_of}
use Rattle.rules.specs.Bits.{bit, bits}
use Rattle.rules.specs.Directory.{known, some_below, some_security}
use Rattle.rules.specs.Bodies.{is_nil, cred_subject}
use Rattle.rules.specs.Permission.{is_row}
use Rattle.rules.specs.Isolation.{alters}
use Rattle.rules.specs.Types.{Bytes, Connection, Permission, ResourceNumber, Uuid}

-- ---- an old row, 25 bytes: subject UUID (128), permission (5), zeros (3), set of resources (64)

abbrev pub old_subject : Row → Uuid
old_subject old = take 16 old

abbrev pub old_permission : Row → Permission
old_permission old = bits old 128 5

abbrev pub old_zeros : Row → ℕ
old_zeros old = bits old 133 3

abbrev pub old_set : Row → Bytes
old_set old = take 8 (drop 17 old)

-- resource n is in the set
abbrev pub in_old_set : Row → ResourceNumber → Bool
in_old_set old n = eqb (bit old (136 + n)) 1

-- the rows of a file
unfoldable pub old_rows : Bytes → List Row
old_rows file = rows_of 25 (length file / 25) file

-- ---- what the rows gave to a sender with this credential row, or no bytes, over this connection

-- nil represents "*"
unfoldable pub is_anybody : Row → Bool
is_anybody old = is_nil (old_subject old)

-- "*" fitted anybody, and a UUID a connection 1 whose credential row has that subject
unfoldable pub old_fits : Row → Connection → Row → Bool
old_fits cred connection old = is_anybody old || (eqb connection 1 && is_row cred && same (old_subject old) (cred_subject cred))

-- on resource n
unfoldable pub old_gives : Row → Connection → ResourceNumber → Row → Permission
old_gives cred connection n old = cond (old_fits cred connection old && in_old_set old n) (old_permission old) 0

-- all rows together
unfoldable pub old_union : Row → Connection → ResourceNumber → Bytes → Permission
old_union cred connection n file = union_of (old_gives cred connection n) (old_rows file)

-- anybody had create, update or delete on a security resource
unfoldable pub opens_security : Row → Bool
opens_security old = is_anybody old && (some_security (in_old_set old) && alters (old_permission old))

-- ---- a bad file

-- a zero bit is set, or an unknown resource is in the set
unfoldable pub bad_row : Row → Bool
bad_row old = not (eqb (old_zeros old) 0) || some_below 64 (λ n. in_old_set old n && not (known n))

-- a length that is no multiple of 25, or a bad row
unfoldable pub bad_file : Bytes → Bool
bad_file file = not (eqb (length file % 25) 0) || some bad_row (old_rows file)

-- a sender as rule 1 sees it: over connection 1 with any credential row or none, over connection 0 with none
pub data Standing : Row → ℕ → Type 0 where
  authenticated : (w : Row) → Standing w 1
  anonymous : Standing [] 0
