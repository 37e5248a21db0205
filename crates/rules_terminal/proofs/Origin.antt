-- Theorem: no record is taken twice, lost or altered. Of the records that pass any test, as many are taken, are dropped with their rows and wait at the end
-- as waited at the start and were kept at hand-in; so the three lists hold, byte for byte, the records of the other two.
use Rattle.rows.proofs.Prelude.{◌≡◌, refl, sym, ap, ◌∙◌, Bool, true, false, not, ◌&&◌, cond, List, [], ◌∷◌, ◌++◌, map, ℕ, ◌+◌, ◌<◌, arith, length, not-false}
use Rattle.rows.proofs.Prelude.{cond_cases, bool_cases, contradiction, and_left, and_right, or_left, or_right, append-nil, ltb, lt-ltb, ltb-true}
use mathlib.Core.List.{map-append}
use native.Mathlib.Nat.{zero-add}
use Rattle.rows.specs.Rows.{Row, same, has_key, numbered_as, some, first_row, without, every, distinct_numbers}
use Rattle.rows.proofs.Gap.{none_goes}
use Rattle.rows.proofs.Kept.{every_without, distinct_without}
use Rattle.rules.specs.declared.Tables.{Tables}
use Rattle.rules.specs.declared.Check.{Check}
use Rattle.rules.specs.declared.Check.TheVariants.{Pass, Refuse}
use Rattle.rules.specs.Record.{Request, received}
use Rattle.rules.specs.Tables.{rows, sound}
use Rattle.rules.specs.Defaults.{Defaults}
use Rattle.rules.specs.Checks.{verdict, is_pass}
use Rattle.rules.specs.Outcome.{tables_after}
use Rattle.rules.specs.Run.{final, kept}
use Rattle.rules.proofs.Answers.{passed}
use Rattle.rules.proofs.SoundKept.{sound_kept}
use Rattle.rules_terminal.specs.Slots.{Seat, Round, anew, after_seat, slot_of, record_of, round_of, waiting}
use Rattle.rules_terminal.specs.Round.{seats, occupied, same_seats, orphaned, valid_round}
use Rattle.rules_terminal.specs.Terminal.{Terminal, slot_sound, sound_terminal, hand_in_checks, handed_in, clears, queue_after, take_checks, turn, due}
use Rattle.rules_terminal.specs.Terminal.{take_of, taken, direct_checks, direct_of, judged}
use Rattle.rules_terminal.specs.Inputs.{Input, hand_in, take_at, direct, next, bytes_of, turns, Undisturbed, records_in, record_if, all_kept, dropped_by}
use Rattle.rules_terminal.specs.Inputs.{all_dropped, count_of, Balance}
use Rattle.rules.proofs.CheckLaws.{check_cases}
use Rattle.rules_terminal.proofs.SlotLaws.{TwoLong, waiting_back, record_back, short_record}
use Rattle.rules_terminal.proofs.Held.{slot_held}
use Rattle.rules_terminal.proofs.RowsMoved.{seats_are}
use Rattle.rules_terminal.proofs.Sound.{terminal_parts, made_waits, hand_passed, held_two, every_same, every_staying, turn_is, take_passed, sound_next}
use Rattle.rules_terminal.proofs.Sound.{fresh_is}
use Rattle.rules_terminal.proofs.Stays.{direct_ready}
use Rattle.rules_terminal.proofs.Refused.{among, refused_among, unsound_run, unsound_moves}
use Rattle.rules_terminal.proofs.Served.{hand_queue, one_slot}
use Rattle.rules.specs.declared.Table.TheVariants.{Creds}

-- ---- the queue after a record

-- no slot's row is gone from tables with which it is sound
pub none_gone : (t : Tables) (ws : List Row) → every (slot_sound (rows Creds t)) ws ≡ true → some (orphaned (seats t)) ws ≡ false
unfolding some every orphaned
none_gone t [] h = refl
none_gone t (w ∷ ws) h = rw (slot_held t w (and_left (slot_sound (rows Creds t) w) _ h)) (none_gone t ws (and_right (slot_sound (rows Creds t) w) _ h))

none_kept : (p : Row → Bool) (ws : List Row) → some p ws ≡ false → kept p ws ≡ []
unfolding some
none_kept p [] h = refl
none_kept p (w ∷ ws) h = rw (or_left (p w) _ h) (none_kept p ws (or_right (p w) _ h))

-- all slots, where the tables are not cleared: those whose rows are not gone
pub after_waiting : (d : Defaults) (t : Tables) (q : Request) (k : Round) (ws : List Row) → sound t ≡ true → TwoLong k → every (slot_sound (rows Creds t)) ws ≡ true
    → distinct_numbers ws ≡ true → clears d t q ≡ false
    → waiting (queue_after d t q k ws) ≡ without (orphaned (seats (tables_after d t q))) ws
unfolding queue_after
after_waiting d t q k ws s two h a c =
    let t' = tables_after d t q in
    let s' = sound_kept d t q s in
    rw c
    (cond_cases (λ (m : List ℕ). waiting m ≡ without (orphaned (seats t')) ws) (same_seats (seats t) (seats t'))
    (λ e. let all = every_same t t' ws (sym (seats_are (seats t) (seats t') e)) h in
    made_waits t' k ws s' two all a ∙ sym (none_goes (orphaned (seats t')) ws (none_gone t' ws all)))
    (λ _. made_waits t' _ _ s' (held_two t' (valid_round (seats t) k) (held_two t k two)) (every_staying t t' ws h) (distinct_without _ ws a)))

-- a record that is kept waits after the others
pub handed_records : (x : Terminal) (r : List ℕ) → sound_terminal x ≡ true
    → records_in (handed_in x r).terminal ≡ records_in x ++ record_if r (verdict (hand_in_checks x r))
unfolding handed_in
handed_records x r h =
    check_cases (verdict (hand_in_checks x r))
    (λ e. rw (e, (hand_queue x r h e).0)
    (map-append record_of (waiting x.queue) (slot_of r ∷ [])
    ∙ ap (λ (v : List ℕ). records_in x ++ v ∷ []) (record_back r (short_record (rows Creds x.tables) r (hand_passed x r e)))))
    (λ n e. rw e (sym (append-nil (records_in x))))

-- ---- counting

module _ (p : List ℕ → Bool) where
  -- the slots whose records pass
  abbrev slots : List Row → ℕ
  slots ws = count_of p (map record_of ws)

  count_append : (rs vs : List (List ℕ)) → count_of p (rs ++ vs) ≡ count_of p rs + count_of p vs
  unfolding count_of
  count_append [] vs = omega arith
  count_append (r ∷ rs) vs = ap (λ (n : ℕ). cond (p r) 1 0 + n) (count_append rs vs) ∙ omega arith

  -- those that go, and the others
  slots_parted : (goes : Row → Bool) (ws : List Row) → slots (kept goes ws) + slots (without goes ws) ≡ slots ws
  unfolding count_of without
  slots_parted goes [] = omega arith
  slots_parted goes (w ∷ ws) =
      bool_cases (goes w) (λ e. rw e (omega (arith, slots_parted goes ws))) (λ e. rw e (omega (arith, slots_parted goes ws)))

  -- the slot of a seat, and the others
  first_slot : (t : Tables) (n : Seat) → length n ≡ 2 → (ws : List Row) → every (slot_sound (rows Creds t)) ws ≡ true → distinct_numbers ws ≡ true
      → some (has_key 0 n) ws ≡ true
      → cond (p (record_of (first_row (has_key 0 n) ws))) 1 0 + slots (without (has_key 0 n) ws) ≡ slots ws
  unfolding count_of without some first_row every distinct_numbers
  first_slot t n l [] h a o = contradiction o refl
  first_slot t n l (w ∷ ws) h a o =
      bool_cases (has_key 0 n w)
      (λ e. rw (e, none_goes (has_key 0 n) ws (one_slot t n l w ws (and_left (slot_sound (rows Creds t) w) _ h) a e)))
      (λ e. rw e
      (omega (arith, first_slot t n l ws (and_right (slot_sound (rows Creds t) w) _ h) (and_right (not (some (numbered_as w) ws)) _ a) (rw e at o))))

  after_count : (d : Defaults) (t : Tables) (q : Request) (k : Round) (ws : List Row) → sound t ≡ true → TwoLong k → every (slot_sound (rows Creds t)) ws ≡ true
      → distinct_numbers ws ≡ true
      → count_of p (dropped_by d t q ws Pass) + slots (waiting (queue_after d t q k ws)) ≡ slots ws
  unfolding count_of queue_after
  after_count d t q k ws s two h a =
      bool_cases (clears d t q)
      (λ c. rw (c, ← fresh_is, waiting_back anew [] tt (omega arith) tt) (omega arith))
      (λ c. rw (after_waiting d t q k ws s two h a c, c) (slots_parted (orphaned (seats (tables_after d t q))) ws))

  -- ---- a run

  counted : (d : Defaults) (x : Terminal) (is : List Input) → sound_terminal x ≡ true → Balance p d x is
  unfolding count_of handed_in taken judged due occupied
  counted d x [] h = omega arith
  counted d x (hand_in r ∷ is) h =
      rw (count_append (record_if r (verdict (hand_in_checks x r))) (all_kept d (handed_in x r).terminal is))
      (omega (
        arith,
        counted d (handed_in x r).terminal is (sound_next d x (hand_in r) h),
        ap (count_of p) (handed_records x r h),
        count_append (records_in x) (record_if r (verdict (hand_in_checks x r))),
      ))
  counted d x (take_at clock capacity ∷ is) h =
      let q = received clock (due x) capacity in
      let s = terminal_parts x h in
      let ws = waiting x.queue in
      let rest = without (has_key 0 (turn x)) ws in
      check_cases (verdict (take_checks x))
      (λ e. let u = turn_is x h (take_passed x e).1 in
      let y = (take_of d x q Pass).terminal in
      rw (e, next, final, count_append (dropped_by d x.tables q rest Pass) (all_dropped d y is))
      (omega (
        arith,
        counted d y is (rw (e, next) at (sound_next d x (take_at clock capacity) h)),
        after_count d x.tables q (after_seat (turn x)) rest s.tables u.two
            (every_without (slot_sound (rows Creds x.tables)) (has_key 0 (turn x)) ws s.keeps) (distinct_without (has_key 0 (turn x)) ws s.distinct),
        first_slot x.tables (turn x) u.two ws s.keeps s.distinct u.waits,
      )))
      (λ n e. rw (e, next, final) (counted d x is h))
  counted d x (direct q ∷ is) h =
      let s = terminal_parts x h in
      let y = (direct_of d x q Pass).terminal in
      let ready = direct_ready x h in
      rw (ready, next, final, count_append (dropped_by d x.tables q (waiting x.queue) Pass) (all_dropped d y is))
      (omega (
        arith,
        counted d y is (rw (ready, next) at (sound_next d x (direct q) h)),
        after_count d x.tables q (round_of x.queue) (waiting x.queue) s.tables s.two s.keeps s.distinct,
      ))

  -- from a terminal of any content
  pub all_come : (d : Defaults) (x : Terminal) (is : List Input) → Balance p d x is
  unfolding count_of
  all_come d x is =
      bool_cases (sound_terminal x) (counted d x is)
      (λ e. let u = unsound_moves d x is e in rw (u.0, u.1, u.2, (unsound_run d x is e).1) (omega arith))

-- ---- what follows

-- there is room for every record: a record that is answered 0 at hand-in waits after the others, byte for byte
pub kept_waits : (x : Terminal) (r : List ℕ) → (handed_in x r).response.answer ≡ 0 → records_in (handed_in x r).terminal ≡ records_in x ++ r ∷ []
unfolding handed_in
kept_waits x r a =
    check_cases (verdict (hand_in_checks x r))
    (λ e. handed_records x r (not-false _ (passed (hand_in_checks x r) e 1)) ∙ rw e)
    (λ n e. contradiction (ap (λ (k : ℕ). among k (hand_in_checks x r)) (sym (rw e at a)) ∙ refused_among (hand_in_checks x r) n e) refl)

-- none is dropped while no credential row is added or removed and the tables are not cleared
dropped_none : (d : Defaults) (t : Tables) (q : Request) (ws : List Row) (c : Check) → every (slot_sound (rows Creds t)) ws ≡ true
    → (c ≡ Pass → seats (tables_after d t q) ≡ seats t) → (is_pass c && clears d t q) ≡ false → dropped_by d t q ws c ≡ []
dropped_none d t q ws Pass h e c =
    let t' = tables_after d t q in
    rw c (ap (map record_of) (none_kept (orphaned (seats t')) ws (none_gone t' ws (every_same t t' ws (e refl) h))))
dropped_none d t q ws (Refuse n) h e c = refl

undisturbed_none : (d : Defaults) (x : Terminal) (is : List Input) → sound_terminal x ≡ true → Undisturbed d x is → all_dropped d x is ≡ []
unfolding taken judged
undisturbed_none d x [] h u = refl
undisturbed_none d x (hand_in r ∷ is) h u = undisturbed_none d (next d x (hand_in r)) is (sound_next d x (hand_in r) h) u.2
undisturbed_none d x (take_at clock capacity ∷ is) h u =
    rw (dropped_none d x.tables (received clock (due x) capacity) _ (verdict (take_checks x))
    (every_without (slot_sound (rows Creds x.tables)) (has_key 0 (turn x)) (waiting x.queue) (terminal_parts x h).keeps) (λ e. rw (e, next) at u.0) u.1)
    (undisturbed_none d (next d x (take_at clock capacity)) is (sound_next d x (take_at clock capacity) h) u.2)
undisturbed_none d x (direct q ∷ is) h u =
    rw (dropped_none d x.tables q _ (verdict (direct_checks x)) (terminal_parts x h).keeps (λ e. rw (e, next) at u.0) u.1)
    (undisturbed_none d (next d x (direct q)) is (sound_next d x (direct q) h) u.2)

-- none is lost: each record that waited or was kept is taken, or waits still
pub none_lost : (p : List ℕ → Bool) (d : Defaults) (x : Terminal) (is : List Input) → sound_terminal x ≡ true → Undisturbed d x is
    → count_of p (map bytes_of (turns d x is)) + count_of p (records_in (final (next d) x is)) ≡ count_of p (records_in x) + count_of p (all_kept d x is)
unfolding count_of
none_lost p d x is h u = let a = all_come p d x is in let b : count_of p (all_dropped d x is) ≡ 0 = ap (count_of p) (undisturbed_none d x is h u) in omega arith

-- none is altered: each record taken waited at the start or was handed in
some_counted : (p : List ℕ → Bool) (rs : List (List ℕ)) → some p rs ≡ ltb 0 (count_of p rs)
unfolding some count_of
some_counted p [] = refl
some_counted p (r ∷ rs) = bool_cases (p r) (λ e. rw e (sym (lt-ltb 0 (1 + count_of p rs) (omega arith)))) (λ e. rw (e, zero-add) (some_counted p rs))

pub taken_came : (d : Defaults) (x : Terminal) (is : List Input) (r : List ℕ) → some (same r) (map bytes_of (turns d x is)) ≡ true
    → some (same r) (records_in x ++ all_kept d x is) ≡ true
taken_came d x is r h =
    let count = count_of (same r) in
    let given = map bytes_of (turns d x is) in
    let came = records_in x ++ all_kept d x is in
    let some-given : 0 < count given = ltb-true 0 (count given) (sym (some_counted (same r) given) ∙ h) in
    some_counted (same r) came ∙ lt-ltb 0 (count came) (omega (arith, count_append (same r) (records_in x) (all_kept d x is), all_come (same r) d x is))
