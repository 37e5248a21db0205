-- The seats of sound tables: distinct, at most 25, of two bytes. A record that passes 2 to 7 has its seat among them, so sound slots are at most 25.
use Rattle.rows.proofs.Prelude.{◌≡◌, refl, sym, ap, ap₂, ◌∙◌, Bool, true, false, not, ◌&&◌, ◌||◌, List, [], ◌∷◌, map, ℕ, ◌/◌, ◌%◌, ◌≤◌, arith, length, take}
use Rattle.rows.proofs.Prelude.{length-map, length-take-le, eqb, eq-eqb, eqb-false, eqb-true, not-false, not-true, bool_cases, contradiction, and_left}
use Rattle.rows.proofs.Prelude.{and_right, and_both, or_left, or_right, or_true_right, and_false_right, not_of_false}
use mathlib.Core.Bool.{not-not}
use Rattle.rows.specs.Rows.{Row, same, has_key, numbered_as, some, first_row, every, without, distinct_numbers}
use Rattle.rows.proofs.Gap.{fewer_stay}
use Rattle.rows.proofs.Kept.{same_true, same_refl, same_sym}
use Rattle.rules.specs.declared.Tables.{Tables}
use Rattle.rules.specs.declared.Table.TheVariants.{Creds}
use Rattle.rules.specs.declared.Check.TheVariants.{Pass}
use Rattle.rules.specs.Bits.{be16}
use Rattle.rules.specs.Record.{header_of, connection, credential}
use Rattle.rules.specs.Tables.{storable, rows, sound}
use Rattle.rules.specs.Permission.{numbered}
use Rattle.rules.specs.Checks.{mismatch, no_credential, verdict}
use Rattle.rules.specs.Promises.Groups.{sender_checks}
use Rattle.rules.proofs.BitLaws.{bits_below}
use Rattle.rules.proofs.Answers.{passed, long_enough, table_parts}
use Rattle.rules.proofs.BodyLaws.{sized, two_long as row-two}
use Rattle.rules.proofs.RecordLaws.{sender_none, sender_partner}
use Rattle.rules.proofs.TableLaws.{few_rows}
use Rattle.rules.proofs.OwnRow.{first_passes, first_every}
use Rattle.rules.proofs.Gaps.{has_number_lem}
use Rattle.rules_terminal.specs.Slots.{Seat, seat_of, record_of}
use Rattle.rules_terminal.specs.Round.{nobody, seats, is_seat}
use Rattle.rules_terminal.specs.Terminal.{slot_sound}
use Rattle.rules_terminal.proofs.SeatLaws.{distinct_seats, first_without}
use Rattle.rules_terminal.proofs.SlotLaws.{slot_parts, slot_whole, slot_key}

-- ---- the seat of a record

some_seats : (p : Seat) (ws : List Row) → some (same p) (map (take 2) ws) ≡ some (λ w. same (take 2 w) p) ws
unfolding some
some_seats p [] = refl
some_seats p (w ∷ ws) = ap₂ (λ (a b : Bool). a || b) (same_sym p (take 2 w)) (some_seats p ws)

word_zero : (n : ℕ) → eqb n 0 ≡ false → same (be16 n) nobody ≡ false
unfolding be16
word_zero n e =
    bool_cases (same (be16 n) nobody)
    (λ h. let w = same_true (be16 n) nobody h in
    let a : n / 256 ≡ 0 = cc in
    let b : n % 256 ≡ 0 = cc in
    absurd (eqb-false n 0 e (omega arith)))
    (λ h. h)

-- connection 1 has a number, and connection 0 has none
module _ (r : List ℕ) (m : mismatch (header_of r) ≡ false) where
  number_some : connection r ≡ 1 → eqb (credential r) 0 ≡ false
  unfolding mismatch
  number_some c =
      and_false_right (not (eqb (connection r) 0)) _ (or_right (eqb (connection r) 0 && not (eqb (credential r) 0)) _ m) (ap (λ (n : ℕ). not (eqb n 0)) c)

  number_none : (connection r ≡ 1 → ⊥) → credential r ≡ 0
  unfolding mismatch
  number_none n =
      let z : eqb (connection r) 0 ≡ true = eq-eqb (connection r) 0 (omega (arith, bits_below r 3 1 1 (omega arith))) in
      eqb-true _ _ (not-false _ (and_false_right (eqb (connection r) 0) _ (or_left _ _ m) z))

-- the tables hold the seat of a record exactly where 7 does not apply
pub held_is : (t : Tables) (r : List ℕ) → 4 ≤ length r → mismatch (header_of r) ≡ false → is_seat (seats t) (seat_of r) ≡ not (no_credential (rows Creds t) (header_of r))
unfolding is_seat seats seat_of no_credential some has_key be16
held_is t r l m =
    bool_cases (eqb (connection r) 1)
    (λ e. let c = eqb-true _ _ e in
    rw (sender_partner r l c, word_zero (credential r) (number_some r m c), some_seats (be16 (credential r)) (rows Creds t))
    (sym (not-not (some (numbered (credential r)) (rows Creds t)))))
    (λ e. rw (sender_none r (eqb-false _ _ e), number_none r m (eqb-false _ _ e), same_refl nobody))

-- a record that passes 2 to 7
module _ (t : Tables) (r : List ℕ) (e : verdict (sender_checks (rows Creds t) r) ≡ Pass) where
  pub passed_held : is_seat (seats t) (seat_of r) ≡ true
  passed_held = held_is t r (long_enough r (passed (sender_checks (rows Creds t) r) e 2)) (passed (sender_checks (rows Creds t) r) e 5) ∙ not_of_false _ (passed (sender_checks (rows Creds t) r) e 7)

  -- passes them in other tables that hold its seat
  pub passed_in : (t' : Tables) → is_seat (seats t') (seat_of r) ≡ true → verdict (sender_checks (rows Creds t') r) ≡ Pass
  unfolding verdict
  passed_in t' h =
      let by = passed (sender_checks (rows Creds t) r) e in
      let there : no_credential (rows Creds t') (header_of r) ≡ false = not-true _ (sym (held_is t' r (long_enough r (by 2)) (by 5)) ∙ h) in
      rw (by 2, by 3, by 4, by 5, by 6, there)

-- of a slot
module _ (t : Tables) (w : Row) (h : slot_sound (rows Creds t) w ≡ true) where
  pub slot_held : is_seat (seats t) (take 2 w) ≡ true
  slot_held = ap (is_seat (seats t)) (slot_key t w h) ∙ passed_held t (record_of w) (slot_parts t w h).passes

  pub slot_in_lem : (t' : Tables) → is_seat (seats t') (take 2 w) ≡ true → slot_sound (rows Creds t') w ≡ true
  slot_in_lem t' g =
      let k = slot_parts t w h in
      slot_whole t' w (record { is = k.is; passes = passed_in t (record_of w) k.passes t' (ap (is_seat (seats t')) (sym (slot_key t w h)) ∙ g) })

-- ---- the seats of sound tables

-- distinct numbers are distinct seats
pub seats_distinct : (ws : List Row) → distinct_numbers ws ≡ true → distinct_seats (map (take 2) ws) ≡ true
unfolding distinct_numbers distinct_seats numbered_as
seats_distinct [] d = refl
seats_distinct (w ∷ ws) d =
    and_both _ _ (ap not (some_seats (take 2 w) ws) ∙ and_left _ _ d) (seats_distinct ws (and_right (not (some (numbered_as w) ws)) _ d))

-- a seat among those of rows that all pass is that of a row that passes
of_seat : (p : Row → Bool) (m : Seat) (ws : List Row) → every p ws ≡ true → some (same m) (map (take 2) ws) ≡ true → (w : Row) × (take 2 w ≡ m) × (p w ≡ true)
of_seat p m ws h i =
    let is : Row → Bool = λ w. same (take 2 w) m in
    let f = sym (some_seats m ws) ∙ i in
    (first_row is ws, same_true _ m (first_passes is ws f), first_every is p ws f h)

-- a credential row is nobody's
nobody_none : (ws : List Row) → every (storable Creds) ws ≡ true → some (same nobody) (map (take 2) ws) ≡ false
unfolding be16
nobody_none ws h =
    bool_cases (some (same nobody) (map (take 2) ws))
    (λ e. let w = of_seat (storable Creds) nobody ws h e in absurd (has_number_lem Creds w.0 w.2 w.1))
    (λ e. e)

module _ (t : Tables) (h : sound t ≡ true) where
  pub tables_distinct : distinct_seats (seats t) ≡ true
  unfolding seats distinct_seats
  tables_distinct = let s = table_parts Creds t h in and_both _ _ (not_of_false _ (nobody_none (rows Creds t) s.stores)) (seats_distinct (rows Creds t) s.distinct)

  pub tables_seats : length (seats t) ≤ 25
  unfolding seats
  tables_seats = omega (arith, length-map (rows Creds t) (take 2), few_rows Creds t h)

  pub seat_long : (p : Seat) → is_seat (seats t) p ≡ true → length p ≡ 2
  unfolding is_seat seats some be16
  seat_long p e =
      bool_cases (same p nobody)
      (λ f. ap length (same_true _ _ f))
      (λ f. let w = of_seat (storable Creds) p (rows Creds t) (table_parts Creds t h).stores (rw f at e) in
      rw (← w.1) (length-take-le 2 w.0 (rw (sized Creds w.0 w.2) (row-two Creds))))

-- ---- distinct seats among others are at most as many

pub pigeons : (xs ys : List Seat) → distinct_seats xs ≡ true → ((m : Seat) → some (same m) xs ≡ true → some (same m) ys ≡ true) → length xs ≤ length ys
unfolding distinct_seats some
pigeons [] ys d h = omega arith
pigeons (x ∷ xs) ys d h =
    omega (
      arith,
      fewer_stay (same x) ys (h x (rw (same_refl x))),
      pigeons xs (without (same x) ys) (and_right (not (some (same x) xs)) _ d)
          (λ m i. (first_without (same m) (same x) (other m i) ys (h m (or_true_right (same m x) _ i))).0),
    )
  where
    other : (m : Seat) → some (same m) xs ≡ true → (y : Seat) → same m y ≡ true → same x y ≡ false
    other m i y g =
        bool_cases (same x y)
        (λ f. contradiction (ap (λ (p : Seat). some (same p) xs) (same_true x y f ∙ sym (same_true m y g)) ∙ i) (not-true _ (and_left _ _ d)))
        (λ f. f)

-- there is room: sound slots are at most 25, whatever is kept
pub few_slots : (t : Tables) (ws : List Row) → sound t ≡ true → every (slot_sound (rows Creds t)) ws ≡ true → distinct_numbers ws ≡ true → length ws ≤ 25
unfolding is_seat
few_slots t ws s h d =
    omega (
      arith,
      length-map ws (take 2),
      tables_seats t s,
      pigeons (map (take 2) ws) (seats t) (seats_distinct ws d) (λ m i. let w = of_seat (slot_sound (rows Creds t)) m ws h i in rw (← w.1) (slot_held t w.0 w.2)),
    )
