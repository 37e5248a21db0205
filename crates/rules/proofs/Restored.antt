-- Theorems, U1 over whole outcomes: the rows of the reply to a permitted RETRIEVE make the table again, except for asserted roles.
-- As rows that are stored; and judged, as records one straight after the other, from tables without rows of that kind.
-- The length of the row owners' field is what the struct's type gives.
use Rattle.rows.proofs.Prelude.{◌≡◌, refl, sym, ap, ◌∙◌, true, ◌||◌, or-false, List, [], ◌∷◌, map, ℕ, length, length-map, eqb, eqb-true, not-false, and_left}
use Rattle.rows.proofs.Prelude.{and_right, and_both, or_true_right}
use Rattle.rows.specs.Rows.{Row, every, stored_all}
use Rattle.rules.specs.declared.Tables.{Tables}
use Rattle.rules.specs.declared.Table.{Table}
use Rattle.rules.specs.declared.Table.TheVariants.{Creds, Aces}
use Rattle.rules.specs.declared.Check.TheVariants.{Pass}
use Rattle.rules.specs.Bits.{bit, bits}
use Rattle.rules.specs.Directory.{resource_of, is_security, entry_of}
use Rattle.rules.specs.declared.Sender.{Sender}
use Rattle.rules.specs.Record.{Request, resource, sender}
use Rattle.rules.specs.Roles.{without_roles, body_of}
use Rattle.rules.specs.Tables.{head_of, head_sound, longest, storable, row_of, count, rows, row_owner, sound, SoundRows}
use Rattle.rules.specs.Defaults.{Defaults}
use Rattle.rules.specs.Permission.{U, has, sender_row, by_owner, by_no_owner, permission, permission_of}
use Rattle.rules.specs.Promises.Theorems.{effective}
use Rattle.rules.specs.States.{write_allowed}
use Rattle.rules.specs.Reading.{contents, reads, reply_to}
use Rattle.rules.specs.Promises.Theorems.{holder, bare, rows_of_reply}
use Rattle.rules.specs.Checks.{bad_length, no_verb, zero_bit_set, mismatch, unknown_resource, no_credential, checks, verdict}
use Rattle.rules.specs.Promises.Groups.{sender_checks}
use Rattle.rules.specs.Outcome.{Outcome, response_to}
use Rattle.rules.specs.Promises.Storing.{Retrieves, TakesRows, MayStore, AllMayStore, in_clear, AllStored}
use Rattle.rules.proofs.Answers.{passed, table_parts}
use Rattle.rules.proofs.BodyLaws.{sized}
use Rattle.rules.proofs.TableLaws.{few_rows}
use Rattle.rules.proofs.Refusals.{permitted_passes, permitted_outcome}
use Rattle.rules.proofs.RoleLaws.{held_parts, body_long, unasserted_is}
use Rattle.rules.proofs.ReadBack.{bodies, reply_is, owner_long, long_bodies, read_rows_lem, rows_themselves, bare_distinct, same_rows}
use Rattle.rules.proofs.RowsStored.{long_stored, all_may, otherwise, by_others, holder_security}

-- ---- the reply

module _ (d : Defaults) (k : Table) (t : Tables) (q : Request) (p : Retrieves d k t q) where
  pub retrieved_sound : sound t ≡ true
  retrieved_sound = not-false _ (passed (checks t (permission q.clock t q.bytes) q) (permitted_passes d t q p.permitted) 1)

  reply_told : (response_to d t q).contents ≡ contents q.clock t (sender_row t (sender q.bytes)) (holder k)
  unfolding reply_to reads
  reply_told = ap (λ (o : Outcome). o.response.contents) (permitted_outcome d t q p.permitted) ∙ rw (p.retrieves, p.on, holder_security k)

  module _ (l : length t.rowners ≡ 64) where
    -- it tells each row's body
    pub rows_told : rows_of_reply k (response_to d t q).contents ≡ bodies k (rows k t)
    rows_told =
        rw (reply_told, reply_is q.clock k t (sender_row t (sender q.bytes)))
        (read_rows_lem k (row_owner (head_of t) (holder k)) (bodies k (rows k t)) (owner_long k t l) (long_bodies k t retrieved_sound))

    -- stored as bodies in an empty table they are the table's rows, without what is asserted
    pub reply_restored : stored_all (map (row_of k) (rows_of_reply k (response_to d t q).contents)) [] ≡ bare k (rows k t)
    reply_restored = rw reply_told (same_rows q.clock k t (sender_row t (sender q.bytes)) retrieved_sound l)

-- ---- the rows without what is asserted may be held

bare_row : (w : Row) → storable Creds w ≡ true → storable Creds (without_roles w) ≡ true
unfolding without_roles
bare_row w h = rw (sized Creds w h) (unasserted_is (body_of w) (body_long w (sized Creds w h)) ∙ (held_parts w h).body)

bare_rows : (ws : List Row) → every (storable Creds) ws ≡ true → every (storable Creds) (bare Creds ws) ≡ true
unfolding every
bare_rows [] h = refl
bare_rows (w ∷ ws) h = and_both _ _ (bare_row w (and_left _ _ h)) (bare_rows ws (and_right (storable Creds w) _ h))

bare_sound : (k : Table) (t : Tables) → sound t ≡ true → SoundRows k (bare k (rows k t))
bare_sound Creds t h =
    let x = table_parts Creds t h in
    record { few = rw length-map (few_rows Creds t h); stores = bare_rows _ x.stores; distinct = bare_distinct Creds _ x.distinct }
bare_sound Aces t h = let x = table_parts Aces t h in record { few = few_rows Aces t h; stores = x.stores; distinct = x.distinct }

-- ---- judged

-- the rows of the reply, sent by those who may, are permitted throughout; the rows are then the same
pub reply_judged : (d : Defaults) (k : Table) (t u : Tables) (q : Request) (qs : List Request)
    → length t.rowners ≡ 64
    → Retrieves d k t q
    → TakesRows k u
    → AllMayStore k u qs (rows_of_reply k (response_to d t q).contents)
    → AllStored d k u qs (bare k (rows k t))
reply_judged d k t u q qs l p takes m =
    let h = retrieved_sound d k t q p in
    let is = rows_themselves k (rows k t) (table_parts k t h).stores in
    rw is at (long_stored d k u (bodies k (rows k t)) qs takes (long_bodies k t h) (rw is (bare_sound k t h)) (rw (rows_told d k t q p l) at m))

-- ---- by anyone, while there is no owner

anyone_may : (t : Tables) (clock : ℕ) (s : Sender) (n : ℕ) → is_security n ≡ true → t.owned ≡ 0 → has (effective clock t s n) U ≡ true
unfolding otherwise by_no_owner has
anyone_may t clock s n h e =
    by_others clock t s n (rw (or_true_right (has (by_owner (head_of t) (sender_row t s) (resource_of n)) U) (has (by_no_owner (head_of t) (resource_of n)) U) (rw (h, e))))

clear_passes : (k : Table) (t : Tables) (b : List ℕ) → length b ≡ longest k → verdict (sender_checks (rows Creds t) (in_clear k b)) ≡ Pass
unfolding in_clear verdict bad_length no_verb zero_bit_set mismatch unknown_resource no_credential sender bits bit entry_of
clear_passes Creds t b l = rw l
clear_passes Aces t b l = rw l

clear_on : (k : Table) (b : List ℕ) → resource (in_clear k b) ≡ holder k
unfolding in_clear bits bit
clear_on Creds b = refl
clear_on Aces b = refl

clear_may : (k : Table) (t : Tables) → t.owned ≡ 0 → (q : Request) (b : List ℕ) → length b ≡ longest k → q.bytes ≡ in_clear k b → MayStore k t q b
unfolding in_clear bits bit permission_of
clear_may k t none q b l e = record {
  passes = rw e (clear_passes k t b l);
  updates = rw e;
  on = rw e (clear_on k b);
  may = anyone_may t q.clock (sender q.bytes) (resource q.bytes) (rw (e, clear_on k b, holder_security k)) none;
  carries = rw e;
}

-- sound tables without an owner are in RFOTM, which takes rows
unowned_takes : (k : Table) (t : Tables) → sound t ≡ true → t.owned ≡ 0 → count k (head_of t) ≡ 0 → TakesRows k t
unfolding sound head_sound write_allowed
unowned_takes k t h o z =
    let ready : (eqb t.state 1 || eqb t.owned 1) ≡ true = search (and_left, and_right) in
    let first : eqb t.state 1 ≡ true = sym (or-false (eqb t.state 1)) ∙ rw o at ready in
    record { is_sound = h; in_state = rw (eqb-true t.state 1 first); no_rows = z }

-- the same rows, sent over connection 0 to tables without an owner
pub reply_judged_clear : (d : Defaults) (k : Table) (t u : Tables) (q : Request) (qs : List Request)
    → length t.rowners ≡ 64
    → Retrieves d k t q
    → sound u ≡ true → u.owned ≡ 0 → count k (head_of u) ≡ 0
    → map (λ (x : Request). x.bytes) qs ≡ map (in_clear k) (rows_of_reply k (response_to d t q).contents)
    → AllStored d k u qs (bare k (rows k t))
reply_judged_clear d k t u q qs l p h o z e =
    reply_judged d k t u q qs l p (unowned_takes k u h o z)
    (all_may k u (in_clear k) (clear_may k u o) (rows_of_reply k (response_to d t q).contents) qs
    (rw (rows_told d k t q p l) (long_bodies k t (retrieved_sound d k t q p))) e)
