-- Theorems over the definitions, from a sound terminal: which records wait after a run, byte for byte and in order, and where the round is.
-- Both are read from only the answers, whether a record was judged at a take or directly.
use Rattle.rows.proofs.Prelude.{◌≡◌, refl, sym, ap, ap₂, ◌∙◌, Bool, true, not, ◌||◌, cond, List, [], ◌∷◌, ◌++◌, map, ℕ, ◌/◌, ◌%◌, arith, take, eqb, eq-eqb}
use Rattle.rows.proofs.Prelude.{bool_cases, contradiction, and_left, and_right, append-nil, or-false}
use Rattle.rows.specs.Rows.{Row, same, has_key, some, every, without, distinct_numbers}
use Rattle.rows.proofs.Gap.{none_goes}
use Rattle.rows.proofs.Kept.{same_true, every_without, distinct_without}
use Rattle.rules.specs.declared.Tables.{Tables}
use Rattle.rules.specs.declared.Table.TheVariants.{Creds}
use Rattle.rules.specs.Bits.{be16}
use Rattle.rules.specs.Record.{Request, received, credential}
use Rattle.rules.specs.Tables.{rows, sound}
use Rattle.rules.specs.Defaults.{Defaults}
use Rattle.rules.specs.Checks.{verdict}
use Rattle.rules.specs.Outcome.{tables_after}
use Rattle.rules.specs.Run.{final}
use Rattle.rules.proofs.CheckLaws.{check_cases}
use Rattle.rules_terminal.specs.Slots.{Seat, Round, anew, after_seat, seat_of, record_of, round_of, waiting}
use Rattle.rules_terminal.specs.Round.{seats, is_seat, same_seats, orphaned, valid_round}
use Rattle.rules_terminal.specs.Terminal.{Terminal, slot_sound, sound_terminal, hand_in_checks, handed_in, clears, queue_after, take_checks, turn, due, taken}
use Rattle.rules_terminal.specs.Terminal.{fresh_terminal, direct_checks, judged}
use Rattle.rules_terminal.specs.Inputs.{Input, hand_in, take_at, direct, next, transition, turns_at, bytes_of, clearing, records_in, kept_at}
use Rattle.rules_terminal.proofs.SlotLaws.{TwoLong, slot_key, waiting_back, round_back}
use Rattle.rules_terminal.proofs.RowsMoved.{seats_are}
use Rattle.rules_terminal.proofs.Sound.{terminal_parts, held_two, turn_is, take_passed, sound_next, fresh_is}
use Rattle.rules_terminal.proofs.Stays.{direct_ready}
use Rattle.rules_terminal.proofs.Takes.{reset_fresh}
use Rattle.rules_terminal.proofs.Served.{hand_queue}
use Rattle.rules_terminal.proofs.Origin.{after_waiting, none_gone, handed_records}
use Rattle.rules_runs.specs.Events.{sent_by}
use Rattle.rules_runs.specs.Waits.{FreshAfterReset, is_removed, waits_after, waits_at_end, round_in, moved, round_after, round_at_end}
use Rattle.rules_runs.specs.Isolation.{answers_to}
use Rattle.rules_runs.proofs.Judged.{SlotIs, SlotsAre, other_number, key_seat, due_seat}
use Rattle.rules_runs.proofs.Seen.{kept_seen, taken_seen, resets_seen}

-- ---- slots and their records

without_both : (p q : Row → Bool) (ws : List Row) → without q (without p ws) ≡ without (λ w. p w || q w) ws
unfolding without
without_both p q [] = refl
without_both p q (w ∷ ws) = bool_cases (p w) (λ e. rw (e, without_both p q ws)) (λ e. rw (e, without_both p q ws))

word_same : (a b : ℕ) → be16 a ≡ be16 b → a ≡ b
unfolding be16
word_same a b e = let f : a / 256 ≡ b / 256 = cc in let g : a % 256 ≡ b % 256 = cc in omega arith

module _ (t : Tables) where
  -- tests of a slot and of its record that agree
  records_without : (p : Row → Bool) (q : List ℕ → Bool) → ((w : Row) → SlotIs t w → p w ≡ q (record_of w)) → (ws : List Row) → SlotsAre t ws
      → map record_of (without p ws) ≡ without q (map record_of ws)
  unfolding without every
  records_without p q each [] h = refl
  records_without p q each (w ∷ ws) h =
      let rest = records_without p q each ws (and_right (slot_sound (rows Creds t) w) _ h) in
      rw (each w (and_left (slot_sound (rows Creds t) w) _ h)) (bool_cases (q (record_of w)) (λ e. rw (e, rest)) (λ e. rw (e, rest)))

  row_gone : (t' : Tables) (w : Row) → SlotIs t w → orphaned (seats t') w ≡ is_removed [] t' (record_of w)
  unfolding orphaned is_removed some
  row_gone t' w h = ap (λ (p : Seat). not (is_seat (seats t') p)) (slot_key t w h)

  -- the bytes of a seat tell the number
  seat_number : (r : List ℕ) (w : Row) → SlotIs t w → has_key 0 (seat_of r) w ≡ eqb (credential r) (credential (record_of w))
  unfolding seat_of
  seat_number r w h =
      let k = key_seat t r w in
      bool_cases (same (take 2 w) (seat_of r))
      (λ e. k ∙ e ∙ sym (eq-eqb _ _ (word_same _ _ (sym (same_true (take 2 w) (seat_of r) e) ∙ slot_key t w h))))
      (λ e. k ∙ e ∙ sym (other_number t r w h e))

  turn_removes : (t' : Tables) (r : List ℕ) (w : Row) → SlotIs t w → (has_key 0 (seat_of r) w || orphaned (seats t') w) ≡ is_removed (r ∷ []) t' (record_of w)
  unfolding is_removed some sent_by
  turn_removes t' r w h =
      ap₂ (λ (a b : Bool). a || b) (seat_number r w h ∙ sym (or-false (eqb (credential r) (credential (record_of w))))) (row_gone t' w h)

-- ---- the records that wait after one input

-- each record that waits has its row
all_stay : (x : Terminal) → sound_terminal x ≡ true → without (is_removed [] x.tables) (records_in x) ≡ records_in x
all_stay x h =
    let t = x.tables in
    let ws = waiting x.queue in
    let s = terminal_parts x h in
    sym (records_without t (orphaned (seats t)) (is_removed [] t) (row_gone t t) ws s.keeps)
    ∙ ap (map record_of) (none_goes (orphaned (seats t)) ws (none_gone t ws s.keeps))

module _ (d : Defaults) (t : Tables) (q : Request) (k : Round) (ws : List Row) (s : sound t ≡ true) (two : TwoLong k) (h : SlotsAre t ws)
    (a : distinct_numbers ws ≡ true) where
  after_records : map record_of (waiting (queue_after d t q k ws)) ≡ cond (clears d t q) [] (map record_of (without (orphaned (seats (tables_after d t q))) ws))
  unfolding queue_after
  after_records =
      bool_cases (clears d t q)
      (λ c. rw (c, ← fresh_is, waiting_back anew [] tt (omega arith) tt))
      (λ c. rw (after_waiting d t q k ws s two h a c, c))

module _ (d : Defaults) where
  waits_next : (x : Terminal) (i : Input) → sound_terminal x ≡ true
      → records_in (next d x i)
      ≡ cond (clearing d x i) [] (without (is_removed (map bytes_of (turns_at d x i)) (next d x i).tables) (records_in x ++ kept_at d x i))
  unfolding handed_in taken judged
  waits_next x (hand_in r) h = rw (← handed_records x r h) (sym (all_stay (handed_in x r).terminal (sound_next d x (hand_in r) h)))
  waits_next x (take_at clock capacity) h =
      let t = x.tables in
      let ws = waiting x.queue in
      let own = has_key 0 (turn x) in
      let q = received clock (due x) capacity in
      let t' = tables_after d t q in
      let s = terminal_parts x h in
      check_cases (verdict (take_checks x))
      (λ e. let waits = (take_passed x e).1 in
      rw (e, next, append-nil (records_in x))
      (after_records d t q (after_seat (turn x)) (without own ws) s.tables (turn_is x h waits).two
      (every_without (slot_sound (rows Creds t)) own ws s.keeps) (distinct_without own ws s.distinct)
      ∙ ap (λ (l : List (List ℕ)). cond (clears d t q) [] l)
      (ap (map record_of) (without_both own (orphaned (seats t')) ws)
      ∙ records_without t (λ w. own w || orphaned (seats t') w) (is_removed (due x ∷ []) t')
      (rw (due_seat x h waits) at (turn_removes t t' (due x))) ws s.keeps)))
      (λ n e. rw (e, next, append-nil (records_in x)) (sym (all_stay x h)))
  waits_next x (direct q) h =
      let t = x.tables in
      let ws = waiting x.queue in
      let t' = tables_after d t q in
      let s = terminal_parts x h in
      rw (direct_ready x h, next, append-nil (records_in x))
      (after_records d t q (round_of x.queue) ws s.tables s.two s.keeps s.distinct
      ∙ ap (λ (l : List (List ℕ)). cond (clears d t q) [] l) (records_without t (orphaned (seats t')) (is_removed [] t') (row_gone t t') ws s.keeps))

  pub waits_seen : (x : Terminal) (i : Input) → sound_terminal x ≡ true → records_in (next d x i) ≡ waits_after (records_in x) i (transition d x i)
  waits_seen x i h = rw (resets_seen d x i, taken_seen d x i, kept_seen d x i) (waits_next x i h)

  -- the queue at the end
  pub waits_at_end_lem : (x : Terminal) (is : List Input) → sound_terminal x ≡ true
      → records_in (final (next d) x is) ≡ waits_at_end (records_in x) is (answers_to d x is)
  waits_at_end_lem x [] h = refl
  waits_at_end_lem x (i ∷ is) h = rw (← waits_seen x i h) (waits_at_end_lem (next d x i) is (sound_next d x i h))

-- ---- the round after one input

held_twice : (ps : List Seat) (k : Round) → valid_round ps (valid_round ps k) ≡ valid_round ps k
held_twice ps anew = refl
held_twice ps (after_seat p) = bool_cases (is_seat ps p) (λ e. rw (e, e)) (λ e. rw e)

module _ (d : Defaults) (t : Tables) (q : Request) (k : Round) (ws : List Row) (s : sound t ≡ true) (two : TwoLong k) where
  after_round : valid_round (seats (tables_after d t q)) (round_of (queue_after d t q k ws))
      ≡ cond (clears d t q) anew (valid_round (seats (tables_after d t q)) (valid_round (seats t) k))
  unfolding queue_after
  after_round =
      let t' = tables_after d t q in
      bool_cases (clears d t q)
      (λ c. rw (c, ← fresh_is, round_back anew [] tt))
      (λ c. rw c
      (bool_cases (same_seats (seats t) (seats t'))
      (λ e. rw (e, round_back k ws two, ← seats_are (seats t) (seats t') e) (sym (held_twice (seats t) k)))
      (λ e. rw (e, round_back _ (without (orphaned (seats t')) ws) (held_two t' (valid_round (seats t) k) (held_two t k two)))
      (held_twice (seats t') (valid_round (seats t) k)))))

module _ (d : Defaults) where
  round_next : (x : Terminal) (i : Input) → sound_terminal x ≡ true
      → round_in (next d x i) ≡ cond (clearing d x i) anew (valid_round (seats (next d x i).tables) (moved (round_in x) (map bytes_of (turns_at d x i))))
  unfolding handed_in taken judged
  round_next x (hand_in r) h =
      let stays = sym (held_twice (seats x.tables) (round_of x.queue)) in
      check_cases (verdict (hand_in_checks x r)) (λ e. rw (e, next, (hand_queue x r h e).1) stays) (λ n e. rw (e, next) stays)
  round_next x (take_at clock capacity) h =
      let t = x.tables in
      let q = received clock (due x) capacity in
      check_cases (verdict (take_checks x))
      (λ e. let waits = (take_passed x e).1 in
      let u = turn_is x h waits in
      let after_turn : valid_round (seats t) (after_seat (turn x)) ≡ after_seat (seat_of (due x)) = rw (u.there, due_seat x h waits) in
      rw (e, next)
      (after_round d t q (after_seat (turn x)) _ (terminal_parts x h).tables u.two
      ∙ ap (λ (k : Round). cond (clears d t q) anew (valid_round (seats (tables_after d t q)) k)) after_turn))
      (λ n e. rw (e, next) (sym (held_twice (seats t) (round_of x.queue))))
  round_next x (direct q) h =
      let s = terminal_parts x h in
      rw (direct_ready x h, next) (after_round d x.tables q (round_of x.queue) (waiting x.queue) s.tables s.two)

  pub round_seen : (x : Terminal) (i : Input) → sound_terminal x ≡ true → round_in (next d x i) ≡ round_after (round_in x) i (transition d x i)
  round_seen x i h = rw (resets_seen d x i, taken_seen d x i) (round_next x i h)

  -- where the round is at the end
  pub round_at_end_lem : (x : Terminal) (is : List Input) → sound_terminal x ≡ true
      → round_in (final (next d) x is) ≡ round_at_end (round_in x) is (answers_to d x is)
  round_at_end_lem x [] h = refl
  round_at_end_lem x (i ∷ is) h = rw (← round_seen x i h) (round_at_end_lem (next d x i) is (sound_next d x i h))

-- ---- RESET, of a terminal of any content

module _ (d : Defaults) where
  reset_next : (x : Terminal) (i : Input) → clearing d x i ≡ true → next d x i ≡ fresh_terminal d
  unfolding taken judged
  reset_next x (hand_in r) c = contradiction c refl
  reset_next x (take_at clock capacity) c =
      check_cases (verdict (take_checks x))
      (λ e. rw (e, next) (reset_fresh d x.tables (received clock (due x) capacity) _ _ (rw e at c)))
      (λ n e. contradiction (rw e at c) refl)
  reset_next x (direct q) c =
      check_cases (verdict (direct_checks x))
      (λ e. rw (e, next) (reset_fresh d x.tables q _ _ (rw e at c)))
      (λ n e. contradiction (rw e at c) refl)

  pub fresh_after_reset : (x : Terminal) (is : List Input) → FreshAfterReset d is (answers_to d x is)
  fresh_after_reset x [] = tt
  fresh_after_reset x (i ∷ is) = (λ e. reset_next x i (sym (resets_seen d x i) ∙ e), fresh_after_reset (next d x i) is)
