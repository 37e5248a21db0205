-- Theorem over the definitions, from a sound terminal: a take gives out the record of the first seat in turn for which one waits.
-- Round and records are those that the answers before it leave, so the order of the takes follows from the hand-ins and the credential rows.
use Rattle.rows.proofs.Prelude.{◌≡◌, refl, ap, ap₂, ◌∙◌, Bool, true, false, List, [], ◌∷◌, map, ℕ, length, take, length-map, eqb, bool_cases, and_left}
use Rattle.rows.proofs.Prelude.{and_right}
use Rattle.rows.proofs.Prelude.{or_true_right}
use Rattle.rows.specs.Rows.{Row, same, has_key, some, every, first_row}
use Rattle.rows.proofs.Kept.{same_refl}
use Rattle.rules.specs.declared.Tables.{Tables}
use Rattle.rules.specs.declared.Table.TheVariants.{Creds}
use Rattle.rules.specs.Bits.{bit, bits}
use Rattle.rules.specs.Tables.{rows}
use Rattle.rules.specs.Defaults.{Defaults}
use Rattle.rules.specs.Checks.{verdict}
use Rattle.rules_terminal.specs.Slots.{Seat, Round, anew, after_seat, record_of, round_of, waiting}
use Rattle.rules_terminal.specs.Round.{seats, is_seat, occupied, start, in_turn, first_in_turn, valid_round}
use Rattle.rules_terminal.specs.Terminal.{Terminal, slot_sound, sound_terminal, turn, due}
use Rattle.rules_terminal.specs.Inputs.{Input, hand_in, take_at, direct, next, transition, records_in}
use Rattle.rules_terminal.proofs.SlotLaws.{slot_key}
use Rattle.rules_terminal.proofs.SeatLaws.{turn_of}
use Rattle.rules_terminal.proofs.Held.{seat_long}
use Rattle.rules_terminal.proofs.Sound.{terminal_parts, turn_is, sound_next}
use Rattle.rules_runs.specs.Waits.{record_taken, round_in, in_seat, first_seat, taken_next, TakenInTurn}
use Rattle.rules_runs.specs.Isolation.{answers_to}
use Rattle.rules_runs.proofs.Judged.{SlotIs, SlotsAre}
use Rattle.rules_runs.proofs.Seen.{taken_seen}
use Rattle.rules_runs.proofs.Waits.{waits_seen, round_seen}

-- tests that agree on the members of a list find the same
first_agree : (p q : Row → Bool) (ws : List Row) → ((w : Row) → some (same w) ws ≡ true → p w ≡ q w) → first_row p ws ≡ first_row q ws
unfolding first_row some
first_agree p q [] each = refl
first_agree p q (w ∷ ws) each =
    let rest = first_agree p q ws (λ v m. each v (or_true_right (same v w) _ m)) in
    rw (each w (rw (same_refl w))) (bool_cases (q w) (λ e. rw e) (λ e. rw e rest))

-- a round that is not held is again
turn_held : (k : Round) (ps : List Seat) → in_turn k ps ≡ in_turn (valid_round ps k) ps
unfolding in_turn start
turn_held anew ps = refl
turn_held (after_seat p) ps = bool_cases (is_seat ps p) (λ e. rw (e, e)) (λ e. rw e)

no_record : record_of [] ≡ []
unfolding record_of bits bit
no_record = refl

module _ (t : Tables) (p : Seat) (two : length p ≡ 2) where
  seat_is : (w : Row) → SlotIs t w → has_key 0 p w ≡ in_seat p (record_of w)
  unfolding has_key in_seat
  seat_is w h = ap₂ (λ (n : ℕ) (s : Seat). same s p) two (ap (λ (n : ℕ). take n w) two ∙ slot_key t w h)

  some_seat : (ws : List Row) → SlotsAre t ws → occupied ws p ≡ some (in_seat p) (map record_of ws)
  unfolding occupied some every
  some_seat [] h = refl
  some_seat (w ∷ ws) h =
      rw (seat_is w (and_left (slot_sound (rows Creds t) w) _ h), some_seat ws (and_right (slot_sound (rows Creds t) w) _ h))

  first_seat_lem : (ws : List Row) → SlotsAre t ws → record_of (first_row (has_key 0 p) ws) ≡ first_row (in_seat p) (map record_of ws)
  unfolding first_row every
  first_seat_lem [] h = no_record
  first_seat_lem (w ∷ ws) h =
      let rest = first_seat_lem ws (and_right (slot_sound (rows Creds t) w) _ h) in
      rw (seat_is w (and_left (slot_sound (rows Creds t) w) _ h))
      (bool_cases (in_seat p (record_of w)) (λ e. rw e) (λ e. rw e rest))

-- ---- one input

module _ (x : Terminal) (h : sound_terminal x ≡ true) where
  turn_seen : turn x ≡ first_seat (round_in x) (seats x.tables) (records_in x)
  unfolding turn first_in_turn first_seat is_seat
  turn_seen =
      let t = x.tables in
      let s = terminal_parts x h in
      let k = round_of x.queue in
      let ws = waiting x.queue in
      first_agree (occupied ws) (λ p. some (in_seat p) (records_in x)) (in_turn k (seats t))
      (λ p m. some_seat t p (seat_long t s.tables p (turn_of p k (seats t) m)) ws s.keeps)
      ∙ ap (first_row (λ p. some (in_seat p) (records_in x))) (turn_held k (seats t))

  due_seen : eqb (length (waiting x.queue)) 0 ≡ false → due x ≡ first_row (in_seat (first_seat (round_in x) (seats x.tables) (records_in x))) (records_in x)
  unfolding due
  due_seen n =
      first_seat_lem x.tables (turn x) (turn_is x h n).two (waiting x.queue) (terminal_parts x h).keeps
      ∙ ap (λ (p : Seat). first_row (in_seat p) (records_in x)) turn_seen

module _ (d : Defaults) where
  taken_next_lem : (x : Terminal) (i : Input) → sound_terminal x ≡ true
      → record_taken i (transition d x i) ≡ taken_next (round_in x) (seats x.tables) (records_in x) i
  unfolding verdict
  taken_next_lem x (hand_in r) h = refl
  taken_next_lem x (take_at clock capacity) h =
      let ws = waiting x.queue in
      taken_seen d x (take_at clock capacity)
      ∙ bool_cases (eqb (length ws) 0)
      (λ e. rw (h, length-map ws record_of, e))
      (λ e. rw (h, length-map ws record_of, e) (ap (λ (r : List ℕ). r ∷ []) (due_seen x h e)))
  taken_next_lem x (direct q) h = refl

  -- ---- a run

  pub taken_in_turn : (x : Terminal) (is : List Input) → sound_terminal x ≡ true
      → TakenInTurn x.tables (round_in x) (records_in x) is (answers_to d x is)
  taken_in_turn x [] h = tt
  taken_in_turn x (i ∷ is) h =
      (taken_next_lem x i h, rw (← round_seen d x i h, ← waits_seen d x i h) (taken_in_turn (next d x i) is (sound_next d x i h)))
