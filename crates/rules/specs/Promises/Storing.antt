-- Rows stored by records, one straight after the other (U1, U10): what the records are, and what has become of the tables afterwards.
-- Their clocks and buffer lengths are any, and so are their senders, as long as each may.
use Rattle.std.specs.Prelude.{◌*◌, ◌≡◌, true, List, [], ◌∷◌, map}
use Rattle.rows.specs.Rows.{Row}
use Rattle.rules.specs.declared.Tables.{Tables}
use Rattle.rules.specs.declared.Table.{Table}
use Rattle.rules.specs.declared.Check.TheVariants.{Pass}
use Rattle.rules.specs.Record.{Request, retrieve, update, verb, resource, body}
use Rattle.rules.specs.Tables.{head_of, count, rows, with_rows, sound}
use Rattle.rules.specs.Defaults.{Defaults}
use Rattle.rules.specs.Permission.{U, has, permission}
use Rattle.rules.specs.States.{row_write, write_allowed}
use Rattle.rules.specs.Promises.Theorems.{holder}
use Rattle.rules.specs.Checks.{verdict}
use Rattle.rules.specs.Promises.Groups.{sender_checks}
use Rattle.rules.specs.Outcome.{Response, response_to, tables_after}
use Rattle.rules.specs.Run.{replies, final}
use Rattle.rules.specs.declared.Table.TheVariants.{Creds}
use Rattle.rules.specs.Types.{Bytes}

-- a permitted RETRIEVE of the table's resource
pub record Retrieves (d : Defaults) (k : Table) (t : Tables) (q : Request) : Type 0 where
  pub retrieves : verb q.bytes ≡ retrieve
  pub on : resource q.bytes ≡ holder k
  pub permitted : (response_to d t q).answer ≡ 0

-- sound tables without rows of this kind, in a state that takes them
pub record TakesRows (k : Table) (t : Tables) : Type 0 where
  pub is_sound : sound t ≡ true
  pub in_state : write_allowed t.state row_write ≡ true
  pub no_rows : count k (head_of t) ≡ 0

-- an UPDATE of the table's resource with this body, which passes 2 to 7, by one who may
pub record MayStore (k : Table) (t : Tables) (q : Request) (b : Bytes) : Type 0 where
  pub passes : verdict (sender_checks (rows Creds t) q.bytes) ≡ Pass
  pub updates : verb q.bytes ≡ update
  pub on : resource q.bytes ≡ holder k
  pub may : has (permission q.clock t q.bytes) U ≡ true
  pub carries : body q.bytes ≡ b

-- one for each body, in their order; each sender's right is read in the tables before the first
abbrev pub AllMayStore : Table → Tables → List Request → List Bytes → Type 0
AllMayStore table t [] [] = Unit {0}
AllMayStore table t [] (b ∷ bs) = ⊥
AllMayStore table t (q ∷ qs) [] = ⊥
AllMayStore table t (q ∷ qs) (b ∷ bs) = MayStore table t q b × AllMayStore table t qs bs

-- the record over connection 0 with this body: verb 2, connection 0, the table's resource, six zero bits, no credential number
unfoldable pub in_clear : Table → Bytes → Bytes
in_clear table b = 0x40 ∷ (holder table * 64) ∷ 0x00 ∷ 0x00 ∷ b

-- each record is permitted; the rows are then these, in their order, and nothing else is changed
pub record AllStored (d : Defaults) (k : Table) (t : Tables) (qs : List Request) (ws : List Row) : Type 0 where
  pub permitted : map (λ (p : Response). p.answer) (replies (response_to d) (tables_after d) t qs) ≡ map (λ (q : Request). 0) qs
  pub held : rows k (final (tables_after d) t qs) ≡ ws
  pub others : with_rows k (final (tables_after d) t qs) [] ≡ with_rows k t []
