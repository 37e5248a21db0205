-- Laws of the record whose turn it is, as the code finds it.
use Rattle.rows.proofs.Prelude.{◌≡◌, refl, sym, ap, ◌∙◌, true, false, true≢false, List, [], ◌∷◌, map, ℕ, arith, length, take}
use Rattle.rows.proofs.Prelude.{drop, get_or, eqb}
use Rattle.std.specs.Prelude.{Option, Some, None}
use Rattle.rows.specs.Rows.{Row, has_key, some, first_row}
use Rattle.rows.specs.Promises.{index_of, row_at}
use Rattle.rows.proofs.Laws.{some_index, is_some, first_at, found_cases}
use Rattle.rows.proofs.Kept.{same_true}
use Rattle.rules.specs.declared.Tables.{Tables}
use Rattle.rules.specs.declared.Table.TheVariants.{Creds}
use Rattle.rules.specs.Bits.{be16}
use Rattle.rules.specs.Tables.{rows, rows_in}
use Rattle.rules_terminal.specs.Slots.{Seat, seat_of, padded, slot_of, record_of, round_of, waiting, slot_size}
use Rattle.rules_terminal.specs.Round.{nobody, seats, is_seat, occupied, in_turn, first_in_turn}
use Rattle.rules_terminal.specs.Terminal.{Terminal, terminal, slot_sound, sound_terminal, turn, due}
use Rattle.rules.proofs.OwnRow.{first_passes, first_every}
use Rattle.rules_terminal.proofs.SeatLaws.{first_least, turn_in}
use Rattle.rules_terminal.proofs.SlotLaws.{slot_parts, slot_length}
use Rattle.rules_terminal.proofs.Sound.{terminal_parts, turn_is}
use Rattle.queue.proofs.Laws.{two_of}
use Rattle.queue_turn.specs.Turns.{slot_in, due_of}

-- ---- the slot of the first seat that is occupied

slot_found : (ws : List Row) (ps : List Seat) (i : ℕ) → slot_in ws ps ≡ Some i → index_of (has_key 0 (first_row (occupied ws) ps)) ws ≡ Some i
unfolding slot_in first_row occupied
slot_found ws [] i e = absurd (true≢false (sym (ap is_some e)))
slot_found ws (p ∷ ps) i e =
    found_cases (index_of (has_key 0 p) ws)
    (λ j f. rw (some_index 0 (has_key 0 p) ws ∙ ap is_some f) (f ∙ rw f at e))
    (λ f. rw (some_index 0 (has_key 0 p) ws ∙ ap is_some f) (slot_found ws ps i (rw f at e)))

slot_none : (ws : List Row) (ps : List Seat) → slot_in ws ps ≡ None → some (occupied ws) ps ≡ false
unfolding slot_in some occupied
slot_none ws [] e = refl
slot_none ws (p ∷ ps) e =
    found_cases (index_of (has_key 0 p) ws)
    (λ j f. absurd (true≢false (ap is_some (rw f at e))))
    (λ f. rw (some_index 0 (has_key 0 p) ws ∙ ap is_some f) (slot_none ws ps (rw f at e)))

turn_some : (x : Terminal) → sound_terminal x ≡ true → eqb (length (waiting x.queue)) 0 ≡ false
    → some (occupied (waiting x.queue)) (in_turn (round_of x.queue) (seats x.tables)) ≡ true
unfolding is_seat
turn_some x h w =
    let u = turn_is x h w in
    (first_least (occupied (waiting x.queue)) (turn x) (in_turn (round_of x.queue) (seats x.tables))
    (turn_in (turn x) (round_of x.queue) (seats x.tables) u.there) u.waits).0

-- ---- the record that is due, in a sound terminal where one waits

module _ (t : Tables) (m : List ℕ) (h : sound_terminal (terminal t m) ≡ true) (w : eqb (length (waiting m)) 0 ≡ false) where
  abbrev pub slot : Row
  slot = first_row (has_key 0 (turn (terminal t m))) (waiting m)

  pub slot_at : (at : Option ℕ) → at ≡ slot_in (waiting m) (in_turn (round_of m) (seats t)) → row_at at (waiting m) ≡ slot
  unfolding turn first_in_turn
  slot_at at is =
      found_cases at
      (λ i e. rw (e ∙ sym (slot_found (waiting m) (in_turn (round_of m) (seats t)) i (sym is ∙ e))) (sym (first_at (has_key 0 (turn (terminal t m))) (waiting m))))
      (λ e. absurd (true≢false (sym (turn_some (terminal t m) h w) ∙ slot_none (waiting m) (in_turn (round_of m) (seats t)) (sym is ∙ e))))

  -- as the code reads it
  pub slot_read : (q : List ℕ) → q ≡ m → (slots : List Row) → slots ≡ waiting q → (creds : List Row) → creds ≡ rows_in Creds t.ncreds t.creds
      → (at : Option ℕ) → at ≡ slot_in (waiting q) (in_turn (round_of q) (nobody ∷ map (take 2) creds)) → (v : List ℕ) → v ≡ row_at at slots → v ≡ slot
  unfolding seats
  slot_read q e slots f creds g at is v r = r ∙ ap (row_at at) (f ∙ ap waiting e) ∙ slot_at at (is ∙ rw (e, g))

  waits : some (has_key 0 (turn (terminal t m))) (waiting m) ≡ true
  unfolding occupied
  waits = (turn_is (terminal t m) h w).waits

  slot_is_sound : slot_sound (rows Creds t) slot ≡ true
  slot_is_sound = first_every (has_key 0 (turn (terminal t m))) (slot_sound (rows Creds t)) (waiting m) waits (terminal_parts (terminal t m) h).keeps

  pub slot_whole_long : length slot ≡ slot_size
  slot_whole_long = slot_length t slot slot_is_sound

  bytes_are : drop 4 slot ≡ padded (due (terminal t m))
  unfolding due padded slot_of seat_of be16
  bytes_are = ap (drop 4) (slot_parts t slot slot_is_sound).is

  seat_is : take 2 slot ≡ turn (terminal t m)
  unfolding has_key
  seat_is =
      ap (λ (j : ℕ). take j slot) (sym (turn_is (terminal t m) h w).two)
      ∙ same_true _ _ (first_passes (has_key 0 (turn (terminal t m))) (waiting m) waits)

  pub due_record_is : (v bytes r : List ℕ)
      → v ≡ slot → bytes ≡ drop 4 v → r ≡ record_of v → record { bytes = bytes; size = length r; seat = get_or v 0 0 ∷ get_or v 1 0 ∷ [] } ≡ due_of (terminal t m)
  unfolding due
  due_record_is v bytes r e b f =
      let x : bytes ≡ padded (due (terminal t m)) = b ∙ ap (drop 4) e ∙ bytes_are in
      let y : r ≡ due (terminal t m) = f ∙ ap record_of e in
      let z : get_or v 0 0 ∷ get_or v 1 0 ∷ [] ≡ turn (terminal t m) = two_of v (omega (arith, ap length e, slot_whole_long)) ∙ ap (take 2) e ∙ seat_is in
      rw (x, y, z)
