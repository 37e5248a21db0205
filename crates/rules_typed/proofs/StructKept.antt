-- A record leaves arrays of bytes, of the struct's lengths.
use Rattle.rows.proofs.Prelude.{◌≡◌, refl, Bool, true, List, [], ◌∷◌, map, ℕ, zero, suc, ◌-◌, ◌*◌, ◌/◌, ◌≤◌, arith, length, take, drop, replicate, eqb}
use Rattle.rows.proofs.Prelude.{cond_cases, length-append, length-take, length-drop}
use Rattle.rows.specs.Rows.{Row, rows_of, joined, packed, with_row, stored as storedRows, numbered_as}
use Rattle.rows.proofs.Kept.{every_long, length_packed}
use Rattle.rules.specs.declared.Tables.{Tables as ByteTables}
use Rattle.rules.specs.declared.Table.{Table}
use Rattle.rules.specs.declared.Table.TheVariants.{Creds, Aces}
use Rattle.rules.specs.declared.Action.{Action as ByteAction}
use Rattle.rules.specs.declared.Action.TheVariants.{Serve, Read, SetRowOwner, SetOwner, SetState, Store, Remove, Assert, Malformed}
use Rattle.rules.specs.Record.{Request as ByteRequest, body, sender}
use Rattle.rules.specs.Bodies.{nil, new_owner}
use Rattle.rules.specs.Roles.{cred_sound, asserted}
use Rattle.rules.specs.Sizes.{roles_size}
use Rattle.rules.specs.Keys.{goes}
use Rattle.rules.specs.Tables.{rows, row_of, row_from, with_rows, stride, storable, longest, empty, table_size, with_row_owner, with_owner, with_state, SoundRows}
use Rattle.rules.specs.Defaults.{Defaults, good_list, default_rows, fresh}
use Rattle.rules.specs.Permission.{sender_row, permission}
use Rattle.rules.specs.Action.{action}
use Rattle.rules.specs.Checks.{verdict, checks}
use Rattle.rules.specs.Outcome.{entered, effect_by, outcome, outcome_at, tables_after}
use Rattle.rules.proofs.BodyLaws.{sized}
use Rattle.rules.proofs.CheckLaws.{check_cases}
use Rattle.rules.proofs.SoundKept.{Passed, passed_all, default_sound, stored_sound, removed_sound, asserted_sound, sound_kept}
use Rattle.rules.proofs.OwnRow.{asserts, own_storable}
use Rattle.rules_typed.specs.Lists.{Maybe}
use Rattle.rules_typed.specs.Types.{Credential}
use Rattle.rules_typed.specs.Tables.{is_bytes}
use Rattle.rules_typed.specs.Struct.{IsStruct, Given, DefaultBytes}
use Rattle.rules_typed.proofs.ListLaws.{Each}
use Rattle.rules_typed.proofs.ByteLaws.{Good, bytes_take, bytes_drop}
use Rattle.rules_typed.proofs.PermissionRead.{Reads, absent, present, creds_good, aces_good, own_reads}
use Rattle.rules_typed.proofs.RowsRead.{bytes_join, zero_bytes, row_bytes_lem, each_without}
use Rattle.rules_typed.proofs.RoleRead.{asserted_good}

abbrev IsBytes : Row → Type 0
IsBytes w = is_bytes w ≡ true

bytes_joined : (ws : List Row) → Each IsBytes ws → is_bytes (joined ws) ≡ true
unfolding joined is_bytes
bytes_joined [] q = refl
bytes_joined (w ∷ ws) q = bytes_join w (joined ws) q.0 (bytes_joined ws q.1)

pub bytes_packed : (n : ℕ) (ws : List Row) → Each IsBytes ws → is_bytes (packed n ws) ≡ true
unfolding packed
bytes_packed n ws q = bytes_join (joined ws) (replicate (n - length (joined ws)) 0) (bytes_joined ws q) (zero_bytes (n - length (joined ws)))

each_stored : (Q : Row → Type 0) (new : Row) (ws : List Row) → Q new → Each Q ws → Each Q (storedRows new ws)
unfolding storedRows
each_stored Q new [] n q = (n, tt)
each_stored Q new (w ∷ ws) n q = cond_cases (Each Q) (numbered_as new w) (λ _. (n, q.1)) (λ _. (q.0, each_stored Q new ws n q.1))

each_bytes : (p : Row → Bool) (ws : List Row) → Each (Good p) ws → Each IsBytes ws
each_bytes p [] q = tt
each_bytes p (w ∷ ws) q = (q.0.1, each_bytes p ws q.1)

rows_long : (k : Table) (ws : List Row) → length ws * stride k ≤ table_size k → SoundRows k ws → length (packed (table_size k) ws) ≡ table_size k
rows_long k ws fits s = length_packed (stride k) (table_size k) ws (every_long (stride k) (storable k) (sized k) ws s.stores) fits

-- the tables with other rows, other row owners, another owner
pub rows_struct : (k : Table) (t : ByteTables) (ws : List Row) → SoundRows k ws → Each IsBytes ws → IsStruct t → IsStruct (with_rows k t ws)
rows_struct Creds t ws s q x = record {
  owner_long = x.owner_long;
  owners_long = x.owners_long;
  creds_long = rows_long Creds ws (omega (arith, s.few)) s;
  aces_long = x.aces_long;
  owner_bytes = x.owner_bytes;
  owners_bytes = x.owners_bytes;
  creds_bytes = bytes_packed (table_size Creds) ws q;
  aces_bytes = x.aces_bytes;
}
rows_struct Aces t ws s q x = record {
  owner_long = x.owner_long;
  owners_long = x.owners_long;
  creds_long = x.creds_long;
  aces_long = rows_long Aces ws (omega (arith, s.few)) s;
  owner_bytes = x.owner_bytes;
  owners_bytes = x.owners_bytes;
  creds_bytes = x.creds_bytes;
  aces_bytes = bytes_packed (table_size Aces) ws q;
}

length_owners : (n : ℕ) (owner owners : List ℕ) → n ≤ 3 → length owner ≡ 16 → length owners ≡ 64 → length (with_row 16 n owner owners) ≡ 64
unfolding with_row
length_owners n owner owners h r l = simp (length-append, length-take, length-drop) (omega arith)

bytes_owners : (n : ℕ) (owner owners : List ℕ) → is_bytes owner ≡ true → is_bytes owners ≡ true → is_bytes (with_row 16 n owner owners) ≡ true
unfolding with_row
bytes_owners n owner owners h i =
    bytes_join (take (n * 16) owners) _ (bytes_take (n * 16) owners i)
    (bytes_join owner _ h (bytes_drop 16 (drop (n * 16) owners) (bytes_drop (n * 16) owners i)))

row_owner_struct : (t : ByteTables) (n : ℕ) (b : List ℕ) → n ≤ 3 → length b ≡ 16 → is_bytes b ≡ true → IsStruct t → IsStruct (with_row_owner t n b)
row_owner_struct t n b h l i x = record {
  owner_long = x.owner_long;
  owners_long = length_owners n b t.rowners h l x.owners_long;
  creds_long = x.creds_long;
  aces_long = x.aces_long;
  owner_bytes = x.owner_bytes;
  owners_bytes = bytes_owners n b t.rowners i x.owners_bytes;
  creds_bytes = x.creds_bytes;
  aces_bytes = x.aces_bytes;
}

owner_struct : (t : ByteTables) (o : ℕ) (u : List ℕ) → length u ≡ 16 → is_bytes u ≡ true → IsStruct t → IsStruct (with_owner t o u)
owner_struct t o u l i x = record {
  owner_long = l;
  owners_long = x.owners_long;
  creds_long = x.creds_long;
  aces_long = x.aces_long;
  owner_bytes = i;
  owners_bytes = x.owners_bytes;
  creds_bytes = x.creds_bytes;
  aces_bytes = x.aces_bytes;
}

state_struct : (t : ByteTables) (s : ℕ) → IsStruct t → IsStruct (with_state t s)
state_struct t s x = record {
  owner_long = x.owner_long;
  owners_long = x.owners_long;
  creds_long = x.creds_long;
  aces_long = x.aces_long;
  owner_bytes = x.owner_bytes;
  owners_bytes = x.owners_bytes;
  creds_bytes = x.creds_bytes;
  aces_bytes = x.aces_bytes;
}

-- ---- fresh tables

from_bytes : (k : Table) (b : List ℕ) → is_bytes b ≡ true → is_bytes (row_from k b) ≡ true
from_bytes Creds b h = bytes_join b (replicate roles_size 0) h (zero_bytes roles_size)
from_bytes Aces b h = h

listed_bytes : (k : Table) (s n : ℕ) (b : List ℕ) → is_bytes b ≡ true → Each IsBytes (map (row_from k) (rows_of s n b))
unfolding rows_of
listed_bytes k s zero b h = tt
listed_bytes k s (suc n) b h = (from_bytes k (take s b) (bytes_take s b h), listed_bytes k s n (drop s b) (bytes_drop s b h))

default_bytes : (k : Table) (b : List ℕ) → is_bytes b ≡ true → Each IsBytes (default_rows k b)
unfolding default_rows
default_bytes k b h = cond_cases (Each IsBytes) (good_list k b) (λ _. listed_bytes k (longest k) (length b / longest k) b h) (λ _. tt)

empty_struct : IsStruct empty
unfolding empty nil is_bytes
empty_struct = record {
  owner_long = refl;
  owners_long = refl;
  creds_long = refl;
  aces_long = refl;
  owner_bytes = zero_bytes 16;
  owners_bytes = zero_bytes 64;
  creds_bytes = zero_bytes (table_size Creds);
  aces_bytes = zero_bytes (table_size Aces);
}

pub fresh_struct : (d : Defaults) → DefaultBytes d → IsStruct (fresh d)
unfolding fresh
fresh_struct d b =
    rows_struct Aces _ _ (default_sound Aces d.aces) (default_bytes Aces d.aces b.aces)
    (rows_struct Creds _ _ (default_sound Creds d.creds) (default_bytes Creds d.creds b.creds) empty_struct)

-- ---- after a record

own_bytes : (w : Row) (m : Maybe Credential) → Reads w m → is_bytes w ≡ true
unfolding is_bytes
own_bytes w m absent = refl
own_bytes w m (present _ k) = k.1

module _ (d : Defaults) (e : DefaultBytes d) (t : ByteTables) (g : Given t) (q : ByteRequest) (h : is_bytes q.bytes ≡ true) where
  abbrev b : List ℕ
  b = body q.bytes

  b_bytes : is_bytes b ≡ true
  b_bytes = bytes_drop 4 q.bytes h

  all_bytes : (k : Table) → Each IsBytes (rows k t)
  all_bytes Creds = each_bytes cred_sound (rows Creds t) (creds_good t g)
  all_bytes Aces = each_bytes (storable Aces) (rows Aces t) (aces_good t g)

  effect_struct : (a : ByteAction) → Passed t q a → IsStruct (effect_by d t q a)
  unfolding entered
  effect_struct Serve x = g.struct
  effect_struct Read x = g.struct
  effect_struct (SetRowOwner n) x = row_owner_struct t n b x.valid.1 x.valid.0 b_bytes g.struct
  effect_struct (SetOwner o) x = owner_struct t o (new_owner b) (omega (arith, length-drop 1 b, x.valid.0)) (bytes_drop 1 b b_bytes) g.struct
  effect_struct (SetState n) x = cond_cases IsStruct (eqb n 0) (λ _. fresh_struct d e) (λ _. state_struct t n g.struct)
  effect_struct (Store k) x =
      rows_struct k t _ (stored_sound k t q g.is_sound x) (each_stored IsBytes (row_of k b) (rows k t) (row_bytes_lem k b b_bytes) (all_bytes k)) g.struct
  effect_struct (Remove k key) x =
      rows_struct k t _ (removed_sound k t (goes key b) g.is_sound) (each_without IsBytes (goes key b) (rows k t) (all_bytes k)) g.struct
  effect_struct (Assert c) x =
      let r = q.bytes in
      let w = sender_row t (sender r) in
      let a = asserts t r c x.valid x.allowed x.long x.known in
      let own = own_bytes w _ (own_reads t g (sender r)) in
      let new = asserted_good q.clock b w (own_storable t r g.is_sound a, own) b_bytes x.valid.1 x.valid.2 x.placed in
      rows_struct Creds t _ (asserted_sound c t q g.is_sound x) (each_stored IsBytes (asserted q.clock b w) (rows Creds t) new.1 (all_bytes Creds))
      g.struct
  effect_struct Malformed x = g.struct

  pub given_kept : Given (tables_after d t q)
  unfolding outcome outcome_at
  given_kept =
      let p = permission q.clock t q.bytes in
      record {
        is_sound = sound_kept d t q g.is_sound;
        struct =
            check_cases (verdict (checks t p q))
            (λ v. rw (v, tables_after) (effect_struct (action q.bytes) (passed_all t p q v)))
            (λ n v. rw (v, tables_after) g.struct);
      }
