-- Theorem: in a sound terminal a waiting record is judged within 25 takes, while no credential row is added or removed and the tables are not cleared.
-- The seats between the round and the record's seat are counted: a take of another seat brings it nearer, and nothing else moves it.
use Rattle.rows.proofs.Prelude.{◌≡◌, refl, sym, ap, subst, ◌∙◌, Bool, true, false, not, List, [], ◌∷◌, ◌++◌, map, ℕ, suc, ◌≤◌, ◌<◌, arith, length, take, eqb}
use Rattle.rows.proofs.Prelude.{ne_eqb, not-true, bool_cases, contradiction, and_left, and_right, or_true_right}
use Rattle.rows.specs.Rows.{Row, same, has_key, numbered_as, some, first_row, rows_before, every, without, stored, distinct_numbers}
use Rattle.rows.proofs.Laws.{numbered_key}
use Rattle.rows.proofs.Kept.{same_true, same_refl, every_without, distinct_without, distinct_stored}
use Rattle.rows.proofs.Restore.{store_absent}
use Rattle.rules.specs.declared.Tables.{Tables}
use Rattle.rules.specs.declared.Check.TheVariants.{Pass}
use Rattle.rules.specs.Record.{Request, received}
use Rattle.rules.specs.Tables.{rows, sound}
use Rattle.rules.specs.Defaults.{Defaults}
use Rattle.rules.specs.Checks.{verdict}
use Rattle.rules.specs.Outcome.{tables_after}
use Rattle.rules_terminal.specs.Slots.{Seat, after_seat, slot_of, record_of, round_of, waiting}
use Rattle.rules_terminal.specs.Round.{seats, is_seat, occupied, in_turn, first_in_turn}
use Rattle.rules_terminal.specs.Terminal.{Terminal, slot_sound, sound_terminal, hand_in_checks, with_record, handed_in, clears, queue_after, turn, due, take_of}
use Rattle.rules_terminal.specs.Terminal.{taken, direct_of, judged}
use Rattle.rules_terminal.specs.Inputs.{Input, hand_in, take_at, direct, next, bytes_of, turns, takes, Undisturbed, records_in}
use Rattle.rules_terminal.proofs.SeatLaws.{Unmoved, first_least, first_without, turn_in, turn_bound, turn_nearer}
use Rattle.rules.proofs.CheckLaws.{check_cases}
use Rattle.rules_terminal.proofs.SlotLaws.{round_back, slot_length}
use Rattle.rules_terminal.proofs.Held.{tables_distinct, tables_seats, seat_long, slot_held}
use Rattle.rules_terminal.proofs.RowsMoved.{seats_again}
use Rattle.rules_terminal.proofs.Sound.{terminal_parts, made_waits, hand_free, hand_keeps, own_key, turn_is, sound_next}
use Rattle.rules_terminal.proofs.Stays.{direct_ready, queue_stays}
use Rattle.rules_terminal.proofs.Refused.{take_ready}
use Rattle.rules.specs.declared.Table.TheVariants.{Creds}

-- a list with a row more has the same first row that passes
first_added : (p : Row → Bool) (new : Row) (ws : List Row) → some p ws ≡ true → Unmoved p ws (ws ++ new ∷ [])
unfolding some first_row
first_added p new [] o = contradiction o refl
first_added p new (w ∷ ws) o = bool_cases (p w) (λ e. rw e (refl, refl)) (λ e. rw e (first_added p new ws (rw e at o)))

some_length : (p : Row → Bool) (ws : List Row) → some p ws ≡ true → eqb (length ws) 0 ≡ false
unfolding some
some_length p [] h = contradiction h refl
some_length p (w ∷ ws) h = ne_eqb (suc (length ws)) 0 (omega arith)

-- a row that has a seat's two bytes
pub key_is : (n : Seat) (w : Row) → length n ≡ 2 → has_key 0 n w ≡ true → take 2 w ≡ n
unfolding has_key
key_is n w l h = ap (λ (k : ℕ). take k w) (sym l) ∙ same_true _ _ h

-- ---- the queue afterwards

-- a record that is kept is after the others, and the round stays
pub hand_queue : (x : Terminal) (r : List ℕ) → sound_terminal x ≡ true → verdict (hand_in_checks x r) ≡ Pass
    → (waiting (with_record r x.queue) ≡ waiting x.queue ++ slot_of r ∷ []) × (round_of (with_record r x.queue) ≡ round_of x.queue)
unfolding with_record
hand_queue x r h e =
    let s = terminal_parts x h in
    let k = round_of x.queue in
    let ws = stored (slot_of r) (waiting x.queue) in (
      made_waits x.tables k ws s.tables s.two (hand_keeps x r h e).0 (distinct_stored (slot_of r) (waiting x.queue) s.distinct)
          ∙ store_absent (slot_of r) (waiting x.queue) (hand_free x r e),
      round_back k ws s.two,
    )

-- a take that moves no credential row leaves the others waiting, and the round after its seat
take_queue : (d : Defaults) (x : Terminal) (q : Request) → sound_terminal x ≡ true → eqb (length (waiting x.queue)) 0 ≡ false
    → clears d x.tables q ≡ false → seats (tables_after d x.tables q) ≡ seats x.tables
    → (waiting (take_of d x q Pass).terminal.queue ≡ without (has_key 0 (turn x)) (waiting x.queue))
    × (round_of (take_of d x q Pass).terminal.queue ≡ after_seat (turn x))
unfolding queue_after
take_queue d x q h n c e =
    let t = x.tables in
    let s = terminal_parts x h in
    let two = (turn_is x h n).two in
    let ws = without (has_key 0 (turn x)) (waiting x.queue) in
    let all = every_without (slot_sound (rows Creds t)) (has_key 0 (turn x)) (waiting x.queue) s.keeps in
    rw (c, e, seats_again (seats t)) (
      made_waits t (after_seat (turn x)) ws s.tables two all (distinct_without (has_key 0 (turn x)) (waiting x.queue) s.distinct),
      round_back (after_seat (turn x)) ws two,
    )

-- ---- one input

module _ (d : Defaults) (n : Seat) where
  -- the distance of seat n in the round
  abbrev distance : Terminal → ℕ
  distance x = rows_before (same n) (in_turn (round_of x.queue) (seats x.tables))

  -- the record of seat n stays where it is
  abbrev Waits : Terminal → Terminal → Type 0
  Waits x y = Unmoved (has_key 0 n) (waiting x.queue) (waiting y.queue)

  hand_waits : (x : Terminal) (r : List ℕ) → sound_terminal x ≡ true → some (has_key 0 n) (waiting x.queue) ≡ true
      → Waits x (handed_in x r).terminal × (distance (handed_in x r).terminal ≡ distance x)
  unfolding handed_in
  hand_waits x r h o =
      check_cases (verdict (hand_in_checks x r))
      (λ e. let m = hand_queue x r h e in rw (e, m.0, m.1) (first_added (has_key 0 n) (slot_of r) (waiting x.queue) o, refl))
      (λ k e. rw e ((o, refl), refl))

  -- a record that is judged directly leaves the memory
  direct_waits : (x : Terminal) (q : Request) → sound_terminal x ≡ true → some (has_key 0 n) (waiting x.queue) ≡ true
      → clears d x.tables q ≡ false → seats (tables_after d x.tables q) ≡ seats x.tables
      → Waits x (direct_of d x q Pass).terminal × (distance (direct_of d x q Pass).terminal ≡ distance x)
  direct_waits x q h o c e = rw (queue_stays d x q h c e, e) ((o, refl), refl)

  module _ (l : length n ≡ 2) where
    -- the seat whose turn it is is before seat n: once it was taken, seat n is nearer
    turn_waits : (x : Terminal) (q : Request) → sound_terminal x ≡ true → is_seat (seats x.tables) n ≡ true
        → some (has_key 0 n) (waiting x.queue) ≡ true → same n (turn x) ≡ false
        → clears d x.tables q ≡ false → seats (tables_after d x.tables q) ≡ seats x.tables
        → Waits x (take_of d x q Pass).terminal × (distance (take_of d x q Pass).terminal < distance x)
    unfolding is_seat turn first_in_turn occupied has_key
    turn_waits x q h g o e c same-seats =
        let some-waits = some_length (has_key 0 n) (waiting x.queue) o in
        let u = turn_is x h some-waits in
        let m = take_queue d x q h some-waits c same-seats in
        let k = round_of x.queue in
        let ps = seats x.tables in
        rw (m.0, m.1, same-seats) (
          first_without (has_key 0 n) (has_key 0 (turn x)) (λ w i. rw (u.two, key_is n w l i) e) (waiting x.queue) o,
          turn_nearer n (turn x) k ps (tables_distinct x.tables (terminal_parts x h).tables) g u.there
              ((first_least (occupied (waiting x.queue)) n (in_turn k ps) (turn_in n k ps g) o).1 e),
        )

    -- ---- a run

    abbrev record_at : Terminal → List ℕ
    record_at x = record_of (first_row (has_key 0 n) (waiting x.queue))

    served_from : (is : List Input) (x : Terminal) → sound_terminal x ≡ true → is_seat (seats x.tables) n ≡ true
        → some (has_key 0 n) (waiting x.queue) ≡ true → Undisturbed d x is → distance x < takes is
        → some (same (record_at x)) (map bytes_of (turns d x is)) ≡ true
    unfolding handed_in taken judged due some
    served_from [] x h g o u m = absurd (omega arith)
    served_from (hand_in r ∷ is) x h g o u m =
        let w = hand_waits x r h o in
        rw w.0.1 at
        (served_from is (handed_in x r).terminal (sound_next d x (hand_in r) h) (rw u.0 g) w.0.0 u.2 (omega (arith, w.1)))
    served_from (take_at clock capacity ∷ is) x h g o u m =
        let q = received clock (due x) capacity in
        let ready = take_ready x h (some_length (has_key 0 n) (waiting x.queue) o) in
        let v = rw (ready, next) at u in
        let k = rw (ready, next) at (sound_next d x (take_at clock capacity) h) in
        rw (ready, next)
        (bool_cases (same n (turn x))
        (λ f. let own : same (record_at x) (due x) ≡ true =
        ap (λ (p : Seat). same (record_of (first_row (has_key 0 p) (waiting x.queue))) (due x)) (same_true n (turn x) f) ∙ same_refl (due x) in
        rw own)
        (λ f. let w = turn_waits x q h g o f v.1 v.0 in
        or_true_right (same (record_at x) (due x)) _
        (rw w.0.1 at (served_from is (take_of d x q Pass).terminal k (rw v.0 g) w.0.0 v.2 (omega (arith, w.1))))))
    served_from (direct q ∷ is) x h g o u m =
        let v = rw (direct_ready x h, next) at u in
        let k = rw (direct_ready x h, next) at (sound_next d x (direct q) h) in
        let w = direct_waits x q h o v.1 v.0 in
        rw (direct_ready x h, next)
        (rw w.0.1 at (served_from is (direct_of d x q Pass).terminal k (rw v.0 g) w.0.0 v.2 (omega (arith, w.1))))

-- ---- the record waits in a seat that the tables hold, and is the only one there

record InSeat (t : Tables) (ws : List Row) (r : List ℕ) : Type 0 where
  seat : Seat
  there : is_seat (seats t) seat ≡ true
  waits : some (has_key 0 seat) ws ≡ true
  is : record_of (first_row (has_key 0 seat) ws) ≡ r

-- one slot has the seat's bytes
pub one_slot : (t : Tables) (n : Seat) → length n ≡ 2 → (w : Row) (ws : List Row) → slot_sound (rows Creds t) w ≡ true → distinct_numbers (w ∷ ws) ≡ true
    → has_key 0 n w ≡ true → some (has_key 0 n) ws ≡ false
unfolding distinct_numbers
one_slot t n l w ws h a e =
    ap (λ (p : Seat). some (has_key 0 p) ws) (sym (key_is n w l e))
    ∙ ap (λ (p : Row → Bool). some p ws) (numbered_key w (omega (arith, slot_length t w h)))
    ∙ not-true _ (and_left _ _ a)

record_seat : (t : Tables) (r : List ℕ) → sound t ≡ true → (ws : List Row) → every (slot_sound (rows Creds t)) ws ≡ true → distinct_numbers ws ≡ true
    → some (same r) (map record_of ws) ≡ true → InSeat t ws r
unfolding some first_row every distinct_numbers
record_seat t r s [] h a o = contradiction o refl
record_seat t r s (w ∷ ws) h a o =
    let here = and_left (slot_sound (rows Creds t) w) _ h in
    let own = own_key w (omega (arith, slot_length t w here)) in
    bool_cases (same r (record_of w))
    (λ e. record { seat = take 2 w; there = slot_held t w here; waits = rw own; is = rw own (sym (same_true _ _ e)) })
    (λ e. let i = record_seat t r s ws (and_right (slot_sound (rows Creds t) w) _ h) (and_right (not (some (numbered_as w) ws)) _ a) (rw e at o) in
    bool_cases (has_key 0 i.seat w)
    (λ f. contradiction i.waits (one_slot t i.seat (seat_long t s i.seat i.there) w ws here a f))
    (λ f. record { seat = i.seat; there = i.there; waits = rw f i.waits; is = rw f i.is }))

-- a waiting record is judged within 25 takes
pub served :
    (d : Defaults) (x : Terminal) (is : List Input) (r : List ℕ)
    → sound_terminal x ≡ true
    → some (same r) (records_in x) ≡ true
    → Undisturbed d x is
    → 25 ≤ takes is
    → some (same r) (map bytes_of (turns d x is)) ≡ true
unfolding is_seat
served d x is r h o u l =
    let s = terminal_parts x h in
    let i = record_seat x.tables r s.tables (waiting x.queue) s.keeps s.distinct o in
    let n = i.seat in
    subst (λ (v : List ℕ). some (same v) (map bytes_of (turns d x is)) ≡ true) i.is
    (served_from d n (seat_long x.tables s.tables n i.there) is x h i.there i.waits u
    (omega (
      arith,
      turn_bound n (round_of x.queue) (seats x.tables) (tables_distinct x.tables s.tables) i.there,
      tables_seats x.tables s.tables,
    )))
