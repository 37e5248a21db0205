-- One record, judged on two sound tables that differ only in the order of their access rows (U14):
-- the same is reported of it except for that order, and afterwards the tables differ at most so.
-- The second tables are the first with other bytes of access rows, so that whatever does not look at these is the same by itself.
use Rattle.rows.proofs.Prelude.{◌≡◌, refl, sym, ap, ap₂, subst, ◌∙◌, Bool, true, false, List, [], ◌∷◌, ◌++◌, ℕ, arith, length, length-append, take_at, eqb}
use Rattle.rows.proofs.Prelude.{bit_or, eqb-true, contradiction, and_left, and_right, and_false_right, cond, cond_cases}
use Rattle.rows.specs.Rows.{Row, joined, stored, without, numbered_as}
use Rattle.rows.proofs.Kept.{AllLong}
use Rattle.rules.specs.declared.Tables.{Tables}
use Rattle.rules.specs.declared.Table.TheVariants.{Creds, Aces}
use Rattle.rules.specs.declared.Check.{Check}
use Rattle.rules.specs.declared.Check.TheVariants.{Pass, Refuse}
use Rattle.rules.specs.declared.Action.{Action}
use Rattle.rules.specs.declared.Action.TheVariants.{Serve, Read, SetRowOwner, SetOwner, SetState, Store, Remove, Assert, Malformed}
use Rattle.rules.specs.Directory.{entry_of, is_security, links, cred, acl2}
use Rattle.rules.specs.declared.Table.{Table}
use Rattle.rules.specs.Keys.{goes}
use Rattle.rules.specs.Kinds.{on_remove}
use Rattle.rules.specs.declared.Sender.{Sender}
use Rattle.rules.specs.declared.Sender.TheVariants.{Unauthenticated, Partner}
use Rattle.rules.specs.Record.{header_of, Request, received, sender, verb, resource, body}
use Rattle.rules.specs.Bodies.{target}
use Rattle.rules.specs.Tables.{head_of, row_of, rows, with_rows, row_owner, sound, SoundRows}
use Rattle.rules.specs.Permission.{sender_row, connection_of, grants, is_owner, by_owner, by_no_owner, by_roles, effective_of, permission, permission_of}
use Rattle.rules.specs.Action.{action, action_of, if_allowed, update_doxm, update_pstat, store_row, update_rows, update_roles, update_action, delete_number, delete_creds}
use Rattle.rules.specs.Action.{delete_action, read_action, security_action}
use Rattle.rules.specs.States.{move_allowed}
use Rattle.rules.specs.Reading.{own_body, row_bytes, contents, reads, reply_of, reply_to, too_short}
use Rattle.rules.specs.Promises.Theorems.{rows_of_reply}
use Rattle.rules.specs.Checks.{no_row, no_credential, bad_target, missing, full, checks, verdict}
use Rattle.rules.specs.Links.{own_record, permits, set_of, link_set, links_of}
use Rattle.rules.specs.StoreRange.{store_range_of}
use Rattle.rules.specs.Defaults.{Defaults, fresh}
use Rattle.rules.specs.Outcome.{Response, Outcome, entered, effect_by, outcome, outcome_at, outcome_of, response_to, tables_after}
use Rattle.rules.proofs.Answers.{table_parts}
use Rattle.rules.proofs.TableLaws.{rows_with}
use Rattle.rules.proofs.SoundKept.{Passed, passed_all, stored_sound, removed_sound}
use Rattle.rules.proofs.ReadBack.{reply_is, owner_long, long_rows, read_rows_lem}
use Rattle.rules_order.specs.Reorder.{Reordered}
use Rattle.rules_order.specs.Order.{OrderOnly, lists_access, SameListed, SameBut}
use Rattle.rules_order.proofs.ReorderLaws.{cond_both, order_refl, order_length, order_joined, order_union, order_some, order_stored, order_without}
use Rattle.rules.specs.Sizes.{ace_row_size}

-- ---- a record that removes access rows is a DELETE of acl2: on any other resource the action is another

abbrev is_access : Table → Bool
is_access Creds = false
is_access Aces = true

abbrev from_access : Action → Bool
from_access = on_remove (λ k key. is_access k) false

-- it goes into a choice
from_cond : (b : Bool) (x y : Action) → from_access (cond b x y) ≡ cond b (from_access x) (from_access y)
from_cond true x y = refl
from_cond false x y = refl

never : (b : Bool) → cond b false false ≡ false
never b = cond_cases (λ (c : Bool). c ≡ false) b (λ _. refl) (λ _. refl)

action_not : (r : List ℕ) → eqb (resource r) acl2 ≡ false → from_access (action r) ≡ false
unfolding action_of security_action read_action update_action update_doxm update_pstat update_rows update_roles store_row delete_action delete_creds delete_number if_allowed
action_not r e = simp (from_cond, never, e)

abbrev SameLength : List ℕ → List ℕ → Type 0
SameLength x y = length x ≡ length y

-- ---- the same tables with other bytes of access rows

abbrev pub with_bytes : Tables → List ℕ → Tables
with_bytes t x =
    record {
      state = t.state;
      owned = t.owned;
      ncreds = t.ncreds;
      naces = t.naces;
      devowner = t.devowner;
      rowners = t.rowners;
      creds = t.creds;
      aces = x;
    }

-- tables that differ only in the order are these
pub order_is : (t u : Tables) → OrderOnly t u → u ≡ with_bytes t u.aces
order_is t u o =
    ap₂ (λ (x : Tables) (n : ℕ). record
    { state = x.state; owned = x.owned; ncreds = x.ncreds; naces = n; devowner = x.devowner; rowners = x.rowners; creds = x.creds; aces = u.aces })
    (sym o.others) (sym o.counted)

set_same : (p q : ℕ → Bool) → ((n : ℕ) → p n ≡ q n) → (ns : List ℕ) → set_of p ns ≡ set_of q ns
unfolding set_of
set_same p q e [] = refl
set_same p q e (n ∷ ns) = rw (e n, set_same p q e ns)

-- ---- a reply that lists the access rows: the row owner, and then they

listed_is : (clock : ℕ) (t : Tables) (r : List ℕ) → lists_access r ≡ true → reply_of clock t r ≡ row_owner (head_of t) acl2 ++ joined (rows Aces t)
unfolding reply_to reads lists_access entry_of
listed_is clock t r h =
    rw (and_left (eqb (verb r) 1) (eqb (resource r) acl2) h, eqb-true (resource r) acl2 (and_right (eqb (verb r) 1) _ h)) (reply_is clock Aces t (sender_row t (sender r)))

same_listed : (owner : List ℕ) (vs ws : List Row) → length owner ≡ 16 → AllLong ace_row_size vs → AllLong ace_row_size ws → Reordered vs ws
    → SameListed (owner ++ joined vs) (owner ++ joined ws)
same_listed owner vs ws l a b o = record {
  long = simp length-append (omega (arith, order_joined o));
  owner = take_at owner (joined vs) 16 l ∙ sym (take_at owner (joined ws) 16 l);
  listed = rw (read_rows_lem Aces owner vs l a, read_rows_lem Aces owner ws l b) o;
}

-- ---- two tables

module _ (t : Tables) (x : List ℕ) (o : Reordered (rows Aces t) (rows Aces (with_bytes t x))) where
  abbrev other : Tables
  other = with_bytes t x

  -- ---- the sender, and the permission

  row_same : (s : Sender) → no_row (rows Creds t) s ≡ no_row (rows Creds other) s
  row_same Unauthenticated = refl
  row_same (Partner n) = refl

  pub credential_same : (r : List ℕ) → no_credential (rows Creds t) (header_of r) ≡ no_credential (rows Creds other) (header_of r)
  unfolding no_credential
  credential_same r = row_same (sender r)

  pub permission_same : (clock : ℕ) (r : List ℕ) → permission clock t r ≡ permission clock other r
  unfolding permission_of effective_of by_owner is_owner row_owner by_no_owner
  permission_same clock r =
      let w = sender_row t (sender r) in
      let c = connection_of (sender r) in
      let e = (header_of r).resource in
      ap (λ (k : ℕ). bit_or (bit_or (bit_or k (by_owner (head_of t) w e)) (by_no_owner (head_of t) e)) (by_roles c e)) (order_union (grants clock w c e) o)

  -- ---- what an action asks of the rows, and the places that it reports

  record ActionSame (b : List ℕ) (a : Action) : Type 0 where
    target : bad_target (head_of t) a ≡ bad_target (head_of other) a
    missed : missing t b a ≡ missing other b a
    filled : full t b a ≡ full other b a
    gap : from_access a ≡ false → store_range_of t b a ≡ store_range_of other b a

  action_same : (b : List ℕ) (a : Action) → ActionSame b a
  unfolding move_allowed
  action_same b Serve = record { target = refl; missed = refl; filled = refl; gap = λ _. refl }
  action_same b Read = record { target = refl; missed = refl; filled = refl; gap = λ _. refl }
  action_same b (SetRowOwner n) = record { target = refl; missed = refl; filled = refl; gap = λ _. refl }
  action_same b (SetOwner owned) = record { target = refl; missed = refl; filled = refl; gap = λ _. refl }
  action_same b (SetState target) = record { target = refl; missed = refl; filled = refl; gap = λ _. refl }
  action_same b (Store Creds) = record { target = refl; missed = refl; filled = refl; gap = λ _. refl }
  action_same b (Store Aces) = record { target = refl; missed = refl; filled = rw (order_some (numbered_as (row_of Aces b)) o); gap = λ _. refl }
  action_same b (Remove Creds key) = record { target = refl; missed = refl; filled = refl; gap = λ _. refl }
  action_same b (Remove Aces key) = record { target = refl; missed = rw (order_some (goes key b) o); filled = refl; gap = λ e. contradiction refl e }
  action_same b (Assert c) = record { target = refl; missed = refl; filled = refl; gap = λ _. refl }
  action_same b Malformed = record { target = refl; missed = refl; filled = refl; gap = λ _. refl }

  -- ---- the reply

  rows_long : (clock : ℕ) (w : Row) (n : ℕ) → length (row_bytes clock t w n) ≡ length (row_bytes clock other w n)
  unfolding row_bytes
  rows_long clock w n = cond_both SameLength (eqb n cred) (λ _. refl) (λ _. cond_both SameLength (eqb n acl2) (λ _. order_joined o) (λ _. refl))

  reply_long : (clock : ℕ) (r : List ℕ) → length (reply_of clock t r) ≡ length (reply_of clock other r)
  unfolding reply_to contents own_body row_owner
  reply_long clock r =
      cond_both SameLength (reads (header_of r))
      (λ _. simp length-append (rw (rows_long clock (sender_row t (sender r)) (resource r))))
      (λ _. refl)

  reply_same : (clock : ℕ) (r : List ℕ) → lists_access r ≡ false → reply_of clock t r ≡ reply_of clock other r
  unfolding reply_to contents own_body row_owner row_bytes reads lists_access
  reply_same clock r e =
      cond_both ◌≡◌ (reads (header_of r))
      (λ h. rw (and_false_right (eqb (verb r) 1) (eqb (resource r) acl2) e (and_left (eqb (verb r) 1) (is_security (resource r)) h)))
      (λ _. refl)

  -- ---- the verdict, and with it the links

  module _ (both : sound t ≡ sound other) where
    verdict_same : (p : ℕ) (q : Request) → verdict (checks t p q) ≡ verdict (checks other p q)
    unfolding too_short
    verdict_same p q =
        let a = action_same (body q.bytes) (action q.bytes) in
        rw (both, credential_same q.bytes, a.target, a.missed, a.filled, reply_long q.clock q.bytes)

    permits_same : (clock : ℕ) (r : List ℕ) → permits clock t r ≡ permits clock other r
    unfolding permits
    permits_same clock r = rw (permission_same clock r, verdict_same (permission clock other r) (received clock r 0))

    links_same : (clock : ℕ) (r : List ℕ) → links_of clock t r ≡ links_of clock other r
    unfolding link_set
    links_same clock r = rw (set_same _ _ (λ n. permits_same clock (own_record r n)) links)

  -- ---- the tables afterwards

  -- other access rows on both sides
  with_order : (vs ws : List Row) → Reordered vs ws → SoundRows Aces vs → SoundRows Aces ws → OrderOnly (with_rows Aces t vs) (with_rows Aces other ws)
  with_order vs ws p v w =
      record { others = refl; counted = order_length p; order = rw (rows_with Aces t vs v.few v.stores, rows_with Aces other ws w.few w.stores) p }

  effect_order : (d : Defaults) (q : Request) (a : Action) → sound t ≡ true → sound other ≡ true → Passed t q a → Passed other q a
      → OrderOnly (effect_by d t q a) (effect_by d other q a)
  unfolding entered
  effect_order d q Serve h k v w = record { others = refl; counted = refl; order = o }
  effect_order d q Read h k v w = record { others = refl; counted = refl; order = o }
  effect_order d q (SetRowOwner n) h k v w = record { others = refl; counted = refl; order = o }
  effect_order d q (SetOwner owned) h k v w = record { others = refl; counted = refl; order = o }
  effect_order d q (SetState n) h k v w =
      cond_both OrderOnly (eqb n 0) (λ _. record { others = refl; counted = refl; order = order_refl (rows Aces (fresh d)) })
      (λ _. record { others = refl; counted = refl; order = o })
  effect_order d q (Store Creds) h k v w = record { others = refl; counted = refl; order = o }
  effect_order d q (Store Aces) h k v w =
      let new = row_of Aces (body q.bytes) in
      with_order (stored new (rows Aces t)) (stored new (rows Aces other))
      (order_stored new o (table_parts Aces t h).distinct) (stored_sound Aces t q h v) (stored_sound Aces other q k w)
  effect_order d q (Remove Creds key) h k v w = record { others = refl; counted = refl; order = o }
  effect_order d q (Remove Aces key) h k v w =
      let goes = goes key (body q.bytes) in
      with_order (without goes (rows Aces t)) (without goes (rows Aces other))
      (order_without goes o) (removed_sound Aces t goes h) (removed_sound Aces other goes k)
  effect_order d q (Assert c) h k v w = record { others = refl; counted = refl; order = o }
  effect_order d q Malformed h k v w = record { others = refl; counted = refl; order = o }

  -- ---- a reply that lists the access rows

  listing_same : (clock : ℕ) (r : List ℕ) → sound t ≡ true → sound other ≡ true → length t.rowners ≡ 64 → lists_access r ≡ true
      → SameListed (reply_of clock t r) (reply_of clock other r)
  unfolding row_owner
  listing_same clock r h k l e =
      rw (listed_is clock t r e, listed_is clock other r e)
      (same_listed (row_owner (head_of t) acl2) (rows Aces t) (rows Aces other) (owner_long Aces t l) (long_rows Aces t h) (long_rows Aces other k) o)

-- ---- one record

pub same_responses : (r : List ℕ) (x : Response) → SameBut r x x
same_responses r x = record {
  answer = refl;
  permission = refl;
  payload = refl;
  links = refl;
  listing = λ _. record { long = refl; owner = refl; listed = order_refl (rows_of_reply Aces x.contents) };
  contents = λ _. refl;
  store = λ _. refl;
}

module _ (d : Defaults) (t : Tables) (x : List ℕ) (o : Reordered (rows Aces t) (rows Aces (with_bytes t x)))
    (q : Request) (h : sound t ≡ true) (k : sound (with_bytes t x) ≡ true) where
  abbrev p : ℕ
  p = permission q.clock t q.bytes

  abbrev v : Check
  v = verdict (checks t p q)

  sounds : sound t ≡ sound (with_bytes t x)
  sounds = h ∙ sym k

  -- the second outcome, by the first verdict
  outcome_is : outcome d (with_bytes t x) q ≡ outcome_of d (with_bytes t x) p q v
  unfolding outcome outcome_at
  outcome_is =
      ap (λ (n : ℕ). outcome_at d (with_bytes t x) n q) (sym (permission_same t x o q.clock q.bytes))
      ∙ ap (outcome_of d (with_bytes t x) p q) (sym (verdict_same t x o sounds p q))

  by_verdict : length t.rowners ≡ 64 → (c : Check) → v ≡ c
      → SameBut q.bytes (outcome_of d t p q c).response (outcome_of d (with_bytes t x) p q c).response
      × OrderOnly (outcome_of d t p q c).tables (outcome_of d (with_bytes t x) p q c).tables
  by_verdict l Pass e =
      let r = q.bytes in (
        record {
          answer = refl;
          permission = refl;
          payload = refl;
          links = links_same t x o sounds q.clock r;
          listing = listing_same t x o q.clock r h k l;
          contents = reply_same t x o q.clock r;
          store = λ n. (action_same t x o (body r) (action r)).gap (action_not r n);
        },
        effect_order t x o d q (action r) h k (passed_all t p q e) (passed_all (with_bytes t x) p q (sym (verdict_same t x o sounds p q) ∙ e)),
      )
  by_verdict l (Refuse n) e = (same_responses q.bytes _, record { others = refl; counted = refl; order = o })

  -- the same is reported of it except for the order, and the tables differ at most so
  pub record_step : length t.rowners ≡ 64
      → SameBut q.bytes (response_to d t q) (response_to d (with_bytes t x) q) × OrderOnly (tables_after d t q) (tables_after d (with_bytes t x) q)
  unfolding outcome outcome_at
  record_step l =
      subst (λ (y : Outcome). SameBut q.bytes (response_to d t q) y.response × OrderOnly (tables_after d t q) y.tables) (sym outcome_is) (by_verdict l v refl)
