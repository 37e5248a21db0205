-- Theorem, U1 and U10: records that may store are all permitted when they are judged one straight after the other, from tables without rows of their kind.
-- The rows are then those of their bodies, in their order, and nothing else is changed. At any clocks and buffer lengths, for any default lists.
use Rattle.rows.proofs.Prelude.{◌≡◌, refl, sym, ap, ap₂, ◌∙◌, Bool, true, false, not, ◌||◌, List, [], ◌∷◌, ◌++◌, map, append_assoc, append-nil, ℕ, ◌<◌, arith}
use Rattle.rows.proofs.Prelude.{length, drop, get_or, length-append, eqb-true, le-ltb, lt-leb, and_left, and_right, contradiction, or_true_right}
use mathlib.Core.Bool.{or_assoc}
use Rattle.rows.specs.Rows.{Row, stored, rows_of, some, every, union_of}
use Rattle.rows.proofs.Laws.{every_append}
use Rattle.rows.proofs.Kept.{AllLong, every_long}
use Rattle.rows.proofs.Restore.{store_absent}
use Rattle.rows.proofs.Repeat.{none_before}
use Rattle.rules.specs.declared.Tables.{Tables}
use Rattle.rules.specs.declared.Table.{Table}
use Rattle.rules.specs.declared.Table.TheVariants.{Creds, Aces}
use Rattle.rules.specs.declared.Check.TheVariants.{Pass}
use Rattle.rules.specs.declared.Action.TheVariants.{Store}
use Rattle.rules.specs.Directory.{resource_of, is_security, entry_of}
use Rattle.rules.specs.declared.Sender.{Sender}
use Rattle.rules.specs.declared.Sender.TheVariants.{Unauthenticated, Partner}
use Rattle.rules.specs.Record.{Request, sender, verb, resource, body}
use Rattle.rules.specs.Tables.{head_of, longest, capacity, storable, row_of, count, rows, rows_in, row_owner, with_rows, sound, SoundRows, each_long}
use Rattle.rules.specs.Defaults.{Defaults}
use Rattle.rules.specs.Permission.{U, has, numbered, sender_row, connection_of, grants, is_owner, by_owner, by_no_owner, by_roles, effective_of}
use Rattle.rules.specs.Promises.Theorems.{effective}
use Rattle.rules.specs.Permission.{permission, permission_of}
use Rattle.rules.specs.Action.{if_allowed, store_row, update_rows, update_action, security_action, action, action_of}
use Rattle.rules.specs.States.{write_allowed}
use Rattle.rules.specs.Reading.{reads, reply_to, too_short}
use Rattle.rules.specs.Promises.Theorems.{holder}
use Rattle.rules.specs.Checks.{no_row, no_credential, no_endpoint, not_permitted, offered, not_offered, checks, verdict, number_of}
use Rattle.rules.specs.Promises.Groups.{sender_checks}
use Rattle.rules.specs.Outcome.{Outcome, response_to, tables_after}
use Rattle.rules.specs.Promises.Storing.{TakesRows, MayStore, AllMayStore, AllStored}
use Rattle.rules.proofs.Answers.{passed, rows_count}
use Rattle.rules.proofs.PermissionLaws.{has_or}
use Rattle.rules.proofs.TableLaws.{rows_with}
use Rattle.rules.proofs.Refusals.{answer_is, permitted_outcome}
use Rattle.rules.proofs.SoundKept.{passed_all, stored_sound, sound_kept}

-- ---- permission to update

-- the access rows give it
unfoldable given : ℕ → Tables → Sender → ℕ → List Row → Bool
given clock t s n ws = has (union_of (grants clock (sender_row t s) (connection_of s) (resource_of n)) ws) U

-- an owner's right does, or that there is no owner, or that the resource is roles
unfoldable pub otherwise : Tables → Sender → ℕ → Bool
otherwise t s n =
    let e = resource_of n in
    (has (by_owner (head_of t) (sender_row t s) e) U || has (by_no_owner (head_of t) e) U) || has (by_roles (connection_of s) e) U

may_parts : (clock : ℕ) (t : Tables) (s : Sender) (n : ℕ) → has (effective clock t s n) U ≡ (given clock t s n (rows Aces t) || otherwise t s n)
unfolding effective_of given otherwise
may_parts clock t s n = rw (has_or _ _ 2, has_or _ _ 2, has_or _ _ 2) (simp or_assoc)

pub by_others : (clock : ℕ) (t : Tables) (s : Sender) (n : ℕ) → otherwise t s n ≡ true → has (effective clock t s n) U ≡ true
by_others clock t s n h = may_parts clock t s n ∙ or_true_right (given clock t s n (rows Aces t)) (otherwise t s n) h

-- records that are each made of a body
pub all_may : (k : Table) (t : Tables) (record_of : List ℕ → List ℕ)
    → ((q : Request) (b : List ℕ) → length b ≡ longest k → q.bytes ≡ record_of b → MayStore k t q b)
    → (bs : List (List ℕ)) (qs : List Request)
    → AllLong (longest k) bs → map (λ (q : Request). q.bytes) qs ≡ map record_of bs → AllMayStore k t qs bs
all_may k t f one [] [] l e = tt
all_may k t f one [] (q ∷ qs) l e = absurd (omega (arith, ap length e))
all_may k t f one (b ∷ bs) [] l e = absurd (omega (arith, ap length e))
all_may k t f one (b ∷ bs) (q ∷ qs) l e =
    (one q b l.0 (ap (λ (x : List (List ℕ)). get_or x 0 []) e), all_may k t f one bs qs l.1 (ap (drop 1) e))

-- ---- what rows of the table do not change

-- tables that are the same except for these rows
abbrev SameBut : Table → Tables → Tables → Type 0
SameBut k v t = with_rows k v [] ≡ with_rows k t []

same_state : (k : Table) (t v : Tables) → SameBut k v t → v.state ≡ t.state
same_state Creds t v e = ap (λ (x : Tables). x.state) e
same_state Aces t v e = ap (λ (x : Tables). x.state) e

-- where there are no credential rows, none but the unauthenticated is known
none_known : (t : Tables) (s : Sender) → rows Creds t ≡ [] → no_row (rows Creds t) s ≡ false → s ≡ Unauthenticated
unfolding some
none_known t Unauthenticated z h = refl
none_known t (Partner m) z h = contradiction (ap (λ (ws : List Row). not (some (numbered m) ws)) z) h

known_still : (k : Table) (t v : Tables) (s : Sender) → rows k t ≡ [] → SameBut k v t → no_row (rows Creds t) s ≡ false → no_row (rows Creds v) s ≡ false
known_still Creds t v s z e h = rw (none_known t s z h)
known_still Aces t v Unauthenticated z e h = refl
known_still Aces t v (Partner m) z e h = ap (λ (x : Tables). no_row (rows Creds x) (Partner m)) e ∙ h

may_still : (k : Table) (t v : Tables) (clock : ℕ) (s : Sender) (n : ℕ)
    → rows k t ≡ [] → SameBut k v t → no_row (rows Creds t) s ≡ false → has (effective clock t s n) U ≡ true → has (effective clock v s n) U ≡ true
unfolding effective_of by_owner is_owner by_no_owner row_owner otherwise given union_of has
may_still Creds t v clock s n z e known h =
    rw (none_known t s z known) (ap (λ (x : Tables). has (effective clock x Unauthenticated n) U) e ∙ rw (none_known t s z known) at h)
may_still Aces t v clock s n z e known h =
    -- without access rows it is the rest that gives it
    by_others clock v s n (ap (λ (x : Tables). otherwise x s n) e ∙ rw (may_parts clock t s n, z) at h)

-- ---- one row

-- where these rows are held already, and nothing else is another than in t
record Holding (k : Table) (t v : Tables) (held : List Row) : Type 0 where
  is_sound : sound v ≡ true
  holds : rows k v ≡ held
  others : SameBut k v t

pub holder_security : (k : Table) → is_security (holder k) ≡ true
unfolding entry_of
holder_security Creds = refl
holder_security Aces = refl

row_action : (k : Table) (r b : List ℕ)
    → verb r ≡ 2 → resource r ≡ holder k → body r ≡ b → length b ≡ longest k → storable k (row_of k b) ≡ true → action r ≡ Store k
unfolding action_of security_action update_action update_rows store_row if_allowed entry_of
row_action Creds r b u o c l f = rw (o, u, c, l, f)
row_action Aces r b u o c l f = rw (o, u, c, l, f)

rows_over : (k : Table) (v : Tables) (ws : List Row) → SameBut k (with_rows k v ws) v
rows_over Creds v ws = refl
rows_over Aces v ws = refl

module _ (d : Defaults) (k : Table) (t v : Tables) (held : List Row) (b : List ℕ) (q : Request)
    (none : rows k t ≡ []) (takes : write_allowed t.state 2 ≡ true)
    (at : Holding k t v held) (m : MayStore k t q b)
    (long : length b ≡ longest k) (after : List Row) (x : SoundRows k (held ++ (row_of k b ∷ after))) where
  stores_row : action q.bytes ≡ Store k
  unfolding every
  stores_row =
      row_action k q.bytes b m.updates m.on m.carries long
      (and_left (storable k (row_of k b)) _ (and_right (every (storable k) held) _ (rw every_append at x.stores)))

  stored_last : stored (row_of k b) held ≡ held ++ (row_of k b ∷ [])
  stored_last = store_absent (row_of k b) held (none_before held _ after x.distinct)

  row_permitted : verdict (checks v (permission q.clock v q.bytes) q) ≡ Pass
  unfolding verdict no_credential no_endpoint permission_of not_permitted not_offered offered too_short reply_to reads
  row_permitted =
      let r = q.bytes in
      let known : no_row (rows Creds t) (sender r) ≡ false = passed (sender_checks (rows Creds t) r) m.passes 7 in
      let fits : count k (head_of v) < capacity k = omega (arith, rows_count k v at.is_sound, ap length at.holds, rw length-append at x.few) in
      rw (
        stores_row,
        at.is_sound,
        passed (sender_checks (rows Creds t) r) m.passes 2,
        passed (sender_checks (rows Creds t) r) m.passes 3,
        passed (sender_checks (rows Creds t) r) m.passes 4,
        passed (sender_checks (rows Creds t) r) m.passes 5,
        passed (sender_checks (rows Creds t) r) m.passes 6,
        known_still k t v (sender r) none at.others known,
        m.updates,
        may_still k t v q.clock (sender r) (resource r) none at.others known m.may,
        m.on,
        holder_security k,
        lt-leb (capacity k) (count k (head_of v)) fits,
        le-ltb q.capacity 0 (omega arith),
        same_state k t v at.others,
        takes,
      )

  answer_0 : (response_to d v q).answer ≡ 0
  answer_0 = answer_is d v q ∙ ap number_of row_permitted

  -- the row is the last
  row_last : tables_after d v q ≡ with_rows k v (held ++ (row_of k b ∷ []))
  row_last =
      ap (λ (o : Outcome). o.tables) (permitted_outcome d v q answer_0)
      ∙ rw (stores_row, m.carries, at.holds, stored_last)

  others_same : SameBut k (tables_after d v q) v
  others_same = rw row_last (rows_over k v (held ++ (row_of k b ∷ [])))

  holding_more : Holding k t (tables_after d v q) (held ++ (row_of k b ∷ []))
  holding_more =
      let p = rw stores_row at (passed_all v _ q row_permitted) in
      let y = rw (m.carries, at.holds, stored_last) at (stored_sound k v q at.is_sound p) in
      record {
        is_sound = sound_kept d v q at.is_sound;
        holds = rw row_last (rows_with k v _ y.few y.stores);
        others = others_same ∙ at.others;
      }

-- ---- the rows, one straight after the other

module _ (d : Defaults) (k : Table) (t : Tables) (none : rows k t ≡ []) (takes : write_allowed t.state 2 ≡ true) where
  store : (v : Tables) (held : List Row) (bs : List (List ℕ)) (qs : List Request)
      → Holding k t v held → AllLong (longest k) bs → SoundRows k (held ++ map (row_of k) bs)
      → AllMayStore k t qs bs → AllStored d k v qs (held ++ map (row_of k) bs)
  store v held [] [] at l x m = record { permitted = refl; held = at.holds ∙ sym (append-nil held); others = refl }
  store v held [] (q ∷ qs) at l x m = absurd m
  store v held (b ∷ bs) [] at l x m = absurd m
  store v held (b ∷ bs) (q ∷ qs) at l x m =
      let a = append_assoc held (row_of k b ∷ []) (map (row_of k) bs) in
      let ws = map (row_of k) bs in
      let next = holding_more d k t v held b q none takes at m.0 l.0 ws x in
      let more = rw a at (store (tables_after d v q) (held ++ (row_of k b ∷ [])) bs qs next l.1 (rw a x) m.1) in
      record {
        permitted = ap₂ (λ (n : ℕ) (ns : List ℕ). n ∷ ns) (answer_0 d k t v held b q none takes at m.0 l.0 ws x) more.permitted;
        held = more.held;
        others = more.others ∙ others_same d k t v held b q none takes at m.0 l.0 ws x;
      }

pub none_held : (k : Table) (t : Tables) → count k (head_of t) ≡ 0 → rows k t ≡ []
unfolding rows_in rows_of
none_held Creds t z = rw z
none_held Aces t z = rw z

-- into a table without credential rows none but the unauthenticated may store one: a partner without a row gets 7
pub creds_in_clear : (t : Tables) (q : Request) (b : List ℕ) → TakesRows Creds t → MayStore Creds t q b → sender q.bytes ≡ Unauthenticated
unfolding no_credential
creds_in_clear t q b takes m =
    none_known t (sender q.bytes) (none_held Creds t takes.no_rows) (passed (sender_checks (rows Creds t) q.bytes) m.passes 7)

-- records that may store the bodies are permitted throughout, and leave their rows
pub long_stored : (d : Defaults) (k : Table) (t : Tables) (bs : List (List ℕ)) (qs : List Request)
    → TakesRows k t → AllLong (longest k) bs → SoundRows k (map (row_of k) bs) → AllMayStore k t qs bs → AllStored d k t qs (map (row_of k) bs)
long_stored d k t bs qs takes l x m =
    let none = none_held k t takes.no_rows in
    store d k t none takes.in_state t [] bs qs (record { is_sound = takes.is_sound; holds = none; others = refl }) l x m

pub all_stored : (d : Defaults) (k : Table) (t : Tables) (bs : List (List ℕ)) (qs : List Request)
    → TakesRows k t → each_long (longest k) bs ≡ true → SoundRows k (map (row_of k) bs) → AllMayStore k t qs bs → AllStored d k t qs (map (row_of k) bs)
unfolding each_long
all_stored d k t bs qs takes l = long_stored d k t bs qs takes (every_long (longest k) _ (λ w e. eqb-true (length w) (longest k) e) bs l)
