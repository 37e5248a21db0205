-- Theorem: a record leaves sound tables sound, so that a run meets answer 1 only where it began with it.
-- 'Sound tables' are those of document 01, 'The tables'.
use Rattle.rows.proofs.Prelude.{◌≡◌, refl, sym, ap, ◌∙◌, Bool, true, false, not, ◌&&◌, ◌||◌, cond, List, [], ◌∷◌, ℕ, zero, suc, ◌*◌, ◌/◌, ◌≤◌, arith, length}
use Rattle.rows.proofs.Prelude.{length-map, eqb, eq-eqb, eqb-false, le-leb, leb-true, not-false, cond_cases, bool_cases, contradiction, and_left, and_right}
use Rattle.rows.proofs.Prelude.{and_both, or_not_left, or_true_right}
use Rattle.rows.specs.Rows.{Row, rows_of, packed, all_zero, same, every, distinct_numbers, stored, without}
use Rattle.rows.proofs.Laws.{length_rows_of}
use Rattle.rows.proofs.Kept.{every_long, rows_of_packed, packed_table, every_stored, every_without, distinct_stored, distinct_without}
use Rattle.rules.specs.declared.Tables.{Tables}
use Rattle.rules.specs.declared.Table.{Table}
use Rattle.rules.specs.declared.Table.TheVariants.{Creds, Aces}
use Rattle.rules.specs.declared.Check.TheVariants.{Pass}
use Rattle.rules.specs.declared.Action.{Action}
use Rattle.rules.specs.declared.Action.TheVariants.{Serve, Read, SetRowOwner, SetOwner, SetState, Store, Remove, Assert, Malformed}
use Rattle.rules.specs.Lookup.{lookup}
use Rattle.rules.specs.Record.{header_of, Request, body, connection, sender}
use Rattle.rules.specs.Bodies.{nil, is_nil, new_owner}
use Rattle.rules.specs.Roles.{roles_in_force, asserted}
use Rattle.rules.specs.Tables.{head_of, stride, longest, capacity, storable, row_of, rows, rows_in, with_rows, rows_sound, head_sound, sound, empty, table_size, SoundRows}
use Rattle.rules.specs.Defaults.{Defaults, good_list, default_rows, fresh}
use Rattle.rules.specs.Keys.{goes}
use Rattle.rules.specs.Action.{action}
use Rattle.rules.specs.Checks.{checks, verdict, bad_length, no_credential, bad_target, full, roles_full}
use Rattle.rules.specs.States.{state_allows, write_allowed, move_listed, move_allowed}
use Rattle.rules.specs.Outcome.{Outcome, outcome, outcome_at, effect_by, entered, tables_after}
use Rattle.rules.specs.Permission.{permission, sender_row}
use Rattle.rules.specs.Run.{final}
use Rattle.rules.proofs.CheckLaws.{check_cases}
use Rattle.rules.proofs.Answers.{table_parts, rows_counted, passed}
use Rattle.rules.proofs.BodyLaws.{Valid, action_valid, sized, two_long, two_fit}
use Rattle.rules.proofs.TableLaws.{few_rows, few_stored, few_without}
use Rattle.rules.proofs.Refusals.{unsound_refused}
use Rattle.rules.proofs.RoleLaws.{asserted_storable}
use Rattle.rules.proofs.OwnRow.{asserts, own_held, asserted_count}

-- a row table with these rows
rows_sound_lem : (k : Table) (size : ℕ) (ws : List Row) → length ws * stride k ≤ size → SoundRows k ws → rows_sound k (length ws) (packed size ws) ≡ true
unfolding rows_sound
rows_sound_lem k size ws fits x =
    let long = every_long (stride k) (storable k) (sized k) ws x.stores in
    let is = rows_counted k (length ws) (packed size ws) x.few ∙ rows_of_packed (stride k) size ws long in
    let unused = (packed_table (stride k) size ws (two_long k) long fits).zeros in
    rw is (search (and_both, le-leb))

pub sound_with : (k : Table) (t : Tables) (ws : List Row) → sound t ≡ true → SoundRows k ws → sound (with_rows k t ws) ≡ true
unfolding sound head_sound
sound_with Creds t ws h x = let new = rows_sound_lem Creds (table_size Creds) ws (omega arith) x in search (and_both, and_left, and_right)
sound_with Aces t ws h x = let new = rows_sound_lem Aces (table_size Aces) ws (omega arith) x in search (and_both, and_left, and_right)

empty_sound : sound empty ≡ true
unfolding sound head_sound rows_sound rows_in empty nil is_nil same all_zero every rows_of distinct_numbers
empty_sound = refl

-- ---- the default rows are few, storable and distinct

pub default_sound : (k : Table) (b : List ℕ) → SoundRows k (default_rows k b)
unfolding default_rows good_list every distinct_numbers
default_sound k b =
    cond_cases (SoundRows k) (good_list k b)
    (λ e.
    let two : length b / longest k ≤ 2 = search (and_left, and_right, leb-true) in
    record {
      few = rw (length-map, length_rows_of) (omega (arith, two_fit k));
      stores = search (and_left, and_right);
      distinct = search (and_left, and_right);
    })
    (λ _. record { few = omega (arith, two_fit k); stores = refl; distinct = refl })

-- fresh tables are sound, whatever the lists
pub fresh_sound : (d : Defaults) → sound (fresh d) ≡ true
unfolding fresh
fresh_sound d =
    sound_with Aces _ _ (sound_with Creds empty _ empty_sound (default_sound Creds d.creds)) (default_sound Aces d.aces)

-- a move to another state than RESET finds an owner
move_owned : (t : Tables) (s : ℕ) → (eqb t.state 1 || eqb t.owned 1) ≡ true → eqb s 0 ≡ false → move_allowed (head_of t) s ≡ true → eqb t.owned 1 ≡ true
unfolding move_allowed move_listed
move_owned t s ready z =
    cond_cases (λ (es : List (ℕ × Bool)). lookup s es false ≡ true → eqb t.owned 1 ≡ true) (eqb t.state 1)
    (λ e h. bool_cases (eqb s 2) (λ f. rw (z, f) at h) (λ f. contradiction (rw (z, f) at h) refl))
    (λ e h. or_not_left (eqb t.state 1) _ ready e)

owner_ready : (s o : ℕ) → (write_allowed s 0 && (not (eqb s 4) || eqb o 1)) ≡ true → (eqb s 1 || eqb o 1) ≡ true
unfolding write_allowed
owner_ready zero o e = contradiction e refl
owner_ready (suc zero) o e = refl
owner_ready (suc (suc zero)) o e = contradiction e refl
owner_ready (suc (suc (suc zero))) o e = contradiction e refl
owner_ready (suc (suc (suc (suc zero)))) o e = e
owner_ready (suc (suc (suc (suc (suc s))))) o e = contradiction e refl

-- what a permitted record's checks leave of its action
pub record Passed (t : Tables) (q : Request) (a : Action) : Type 0 where
  pub valid : Valid (connection q.bytes) (body q.bytes) a
  pub long : bad_length (length q.bytes) ≡ false
  pub known : no_credential (rows Creds t) (header_of q.bytes) ≡ false
  pub allowed : state_allows t.state a ≡ true
  pub listed : bad_target (head_of t) a ≡ false
  pub fits : full t (body q.bytes) a ≡ false
  pub placed : roles_full (roles_in_force q.clock (sender_row t (sender q.bytes))) (body q.bytes) a ≡ false

pub passed_all : (t : Tables) (p : ℕ) (q : Request) → verdict (checks t p q) ≡ Pass → Passed t q (action q.bytes)
passed_all t p q e = record {
  valid = action_valid q.bytes;
  long = passed (checks t p q) e 2;
  known = passed (checks t p q) e 7;
  allowed = not-false _ (passed (checks t p q) e 11);
  listed = passed (checks t p q) e 12;
  fits = passed (checks t p q) e 14;
  placed = passed (checks t p q) e 22;
}

-- ---- the rows after an action

stored_rows : (k : Table) (t : Tables) (w : Row) → sound t ≡ true → length (stored w (rows k t)) ≤ capacity k → storable k w ≡ true
    → SoundRows k (stored w (rows k t))
stored_rows k t w h few fits =
    let s = table_parts k t h in
    record { few = few; stores = every_stored _ w _ fits s.stores; distinct = distinct_stored w _ s.distinct }

pub stored_sound : (k : Table) (t : Tables) (q : Request) → sound t ≡ true → Passed t q (Store k) → SoundRows k (stored (row_of k (body q.bytes)) (rows k t))
stored_sound k t q h x = stored_rows k t _ h (few_stored k t (body q.bytes) h x.fits) x.valid

pub removed_sound : (k : Table) (t : Tables) (goes : Row → Bool) → sound t ≡ true → SoundRows k (without goes (rows k t))
removed_sound k t goes h =
    let s = table_parts k t h in
    record { few = few_without k t goes h; stores = every_without _ goes _ s.stores; distinct = distinct_without goes _ s.distinct }

pub asserted_sound : (c : ℕ) (t : Tables) (q : Request) → sound t ≡ true → Passed t q (Assert c)
    → SoundRows Creds (stored (asserted q.clock (body q.bytes) (sender_row t (sender q.bytes))) (rows Creds t))
asserted_sound c t q h x =
    let b = body q.bytes in
    let a = asserts t q.bytes c x.valid x.allowed x.long x.known in
    stored_rows Creds t _ h (rw (asserted_count t q.bytes h a q.clock b) (few_rows Creds t h))
    (asserted_storable q.clock b _ (own_held t q.bytes h a) x.valid.1 x.valid.2 x.placed)

effect_sound : (d : Defaults) (t : Tables) (q : Request) (a : Action) → sound t ≡ true → Passed t q a → sound (effect_by d t q a) ≡ true
unfolding entered sound head_sound
effect_sound d t q Serve h x = h
effect_sound d t q Read h x = h
effect_sound d t q (SetRowOwner n) h x = h
effect_sound d t q (SetOwner o) h x =
    let agrees = eq-eqb o (cond (is_nil (new_owner (body q.bytes))) 0 1) x.valid.1 in
    let ready = owner_ready t.state o x.allowed in
    search (and_both, and_left, and_right)
effect_sound d t q (SetState n) h x =
    cond_cases (λ u. sound u ≡ true) (eqb n 0)
    (λ _. fresh_sound d)
    (λ e.
    let low = le-leb 1 n (omega (arith, eqb-false n 0 e)) in
    let high = le-leb n 4 x.valid in
    let old : (eqb t.state 1 || eqb t.owned 1) ≡ true = search (and_left, and_right) in
    let ready = or_true_right (eqb n 1) (eqb t.owned 1) (move_owned t n old e (not-false _ x.listed)) in
    search (and_both, and_left, and_right))
effect_sound d t q (Store k) h x = sound_with k t _ h (stored_sound k t q h x)
effect_sound d t q (Remove k key) h x = sound_with k t _ h (removed_sound k t (goes key (body q.bytes)) h)
effect_sound d t q (Assert c) h x = sound_with Creds t _ h (asserted_sound c t q h x)
effect_sound d t q Malformed h x = h

-- a record leaves sound tables sound
pub sound_kept : (d : Defaults) (t : Tables) (q : Request) → sound t ≡ true → sound (tables_after d t q) ≡ true
unfolding outcome outcome_at
sound_kept d t q h =
    let p = permission q.clock t q.bytes in
    check_cases (verdict (checks t p q))
    (λ e. rw (e, tables_after) (effect_sound d t q (action q.bytes) h (passed_all t p q e)))
    (λ n e. rw (e, tables_after) h)

-- and so does a run of records
pub run_sound : (d : Defaults) (t : Tables) (qs : List Request) → sound t ≡ true → sound (final (tables_after d) t qs) ≡ true
run_sound d t [] h = h
run_sound d t (q ∷ qs) h = run_sound d (tables_after d t q) qs (sound_kept d t q h)

-- a record neither makes nor mends tables that are not sound
pub sound_same : (d : Defaults) (t : Tables) (q : Request) → sound (tables_after d t q) ≡ sound t
sound_same d t q = bool_cases (sound t) (λ e. sound_kept d t q e ∙ sym e) (λ e. ap (λ (o : Outcome). sound o.tables) (unsound_refused d t q e))
