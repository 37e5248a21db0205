-- Laws of the memory as it is changed: a slot made, the slots between, the head and the round.
use Rattle.rows.proofs.Prelude.{◌≡◌, refl, sym, ap, ap₂, ◌∙◌, Bool, true, false, not, ◌&&◌, ◌||◌, cond, List, [], ◌∷◌, ◌++◌, map, ℕ, ◌+◌, ◌-◌}
use Rattle.rows.proofs.Prelude.{◌*◌, ◌/◌, ◌%◌, ◌≤◌, ◌<◌, min-eq_left, arith, length, take, drop, get_or, set, replicate, drop-cons, take_all}
use Rattle.rows.proofs.Prelude.{get_or-drop, length-append, length-drop, drop_at, length-take-le, cond_cases, bool_cases}
use Rattle.rows.proofs.Prelude.{contradiction}
use borrow.Rule.Slice.PartMut.{put_mid}
use Rattle.std.specs.Int.{w16, to_be_bytes}
use Rattle.std.specs.Prelude.{Option, Some, None, MatchOption}
use Rattle.std.specs.Bool.{then_some}
use Rattle.rows.specs.Rows.{Row, rows_of, packed, all_zero, same, has_key, some, numbered_as, stored, without}
use Rattle.rows.specs.Promises.{index_of, IsTable}
use Rattle.rows.proofs.Laws.{length_rows_of, drop_replicate, take_rest, lent_rest, some_index, is_some, zeros_replicate}
use Rattle.rows.proofs.Kept.{same_true, same_refl, same_sym, length_without, length_stored}
use Rattle.rules.specs.Bits.{be16}
use Rattle.rules.specs.declared.Table.TheVariants.{Creds}
use Rattle.rules.specs.Tables.{rows_in}
use Rattle.rules.proofs.BitLaws.{word_is}
use Rattle.rules_terminal.specs.Slots.{Seat, Round, after_seat, seat_of, padded, slot_of, anew, round_bytes, round_of, waiting, queue_of, queue_size, slot_size}
use Rattle.rules_terminal.specs.Round.{nobody, seats_in, is_seat, orphaned, valid_round}
use Rattle.rules_terminal.specs.Terminal.{with_record}
use Rattle.queue.specs.Queue.{IsQueue}
use Rattle.queue.specs.Viewed.{round_from}

-- ---- a slot

-- as the code fills it: four bytes, and then the record, over zeros
pub slot_is : (r size head last : List ℕ) → get_or r 2 0 < 256 → get_or r 3 0 < 256 → length r ≤ 256 → size ≡ to_be_bytes w16 (length r)
    → head ≡ get_or r 2 0 ∷ get_or r 3 0 ∷ get_or size 0 0 ∷ get_or size 1 0 ∷ [] → last ≡ r
    → put_mid 4 (4 + length r - 4) (head ++ replicate 256 0) last ≡ slot_of r
unfolding slot_of seat_of padded be16
slot_is r size head last a b few s h e =
    let high : length r / 256 % 256 ≡ length r / 256 = omega arith in
    let long : 4 + length r - 4 ≡ length r = omega arith in
    rw (h, s, e, high, long, drop_replicate (length r) 256 0)
    (ap (λ (l : List ℕ). l ++ (be16 (length r) ++ (r ++ replicate (256 - length r) 0))) (sym (word_is r 2 a b)))

-- ---- the head

pub two_of : (b : List ℕ) → 2 ≤ length b → get_or b 0 0 ∷ get_or b 1 0 ∷ [] ≡ take 2 b
two_of b h = rw (drop-cons b 0 0 (omega arith), drop-cons b 1 0 (omega arith))

-- ---- the slots

-- the memory's slots, as they are passed in
abbrev pub slots_of : List ℕ → List ℕ
slots_of m = take (length m - 4) (drop 4 m)

-- the memory while other slots are there
abbrev pub between : List ℕ → List ℕ → List ℕ
between m last = take 4 m ++ (last ++ drop (length m - 4) (drop 4 m))

module _ (m : List ℕ) (q : IsQueue m) where
  pub slots_long : length (slots_of m) ≡ 6500
  slots_long = ap length (take_rest 4 m) ∙ length-drop 4 m ∙ omega (arith, q.long)

  pub slots_table : IsTable slot_size (get_or m 0 0) (slots_of m)
  slots_table = rw (take_rest 4 m) q.table

  pub slots_rows : rows_of slot_size (get_or m 0 0) (slots_of m) ≡ waiting m
  unfolding waiting
  slots_rows = rw (take_rest 4 m, min-eq_left q.few)

  front : length (take 4 m) ≡ 4
  front = length-take-le 4 m (omega (arith, q.long))

  pub between_long : (last : List ℕ) → length last ≡ length (slots_of m) → length (between m last) ≡ queue_size
  between_long last e = ap length (lent_rest 4 m last) ∙ length-append (take 4 m) last ∙ omega (arith, front, slots_long, e)

  between_slots : (last : List ℕ) → drop 4 (between m last) ≡ last
  between_slots last = ap (drop 4) (lent_rest 4 m last) ∙ drop_at (take 4 m) last 4 front

  -- other slots, and another head
  pub changed : (k : Round) (ws : List Row) (left : ℕ) (last r x : List ℕ) → left ≡ length ws → last ≡ packed (length (slots_of m)) ws → r ≡ round_bytes k
      → x ≡ left ∷ (r ++ drop 4 (between m last)) → x ≡ queue_of k ws
  unfolding queue_of
  changed k ws left last r x n b e h =
      h ∙ ap₂ (λ (j : ℕ) (l : List ℕ). j ∷ (l ++ drop 4 (between m last))) n e
      ∙ ap (λ (l : List ℕ). length ws ∷ (round_bytes k ++ l)) (between_slots last ∙ b ∙ ap (λ (j : ℕ). packed j ws) slots_long)

  -- other slots, and the count
  pub counted_anew : (ws : List Row) (left : ℕ) (last : List ℕ) → left ≡ length ws → last ≡ packed (length (slots_of m)) ws
      → set (between m last) 0 left ≡ queue_of (round_of m) ws
  unfolding queue_of
  counted_anew ws left last n b =
      ap (λ (l : List ℕ). set l 0 left) (lent_rest 4 m last ∙ ap (λ (l : List ℕ). l ++ last) head_is)
      ∙ ap₂ (λ (j : ℕ) (l : List ℕ). j ∷ (round_bytes (round_of m) ++ l)) n (b ∙ ap (λ (j : ℕ). packed j ws) slots_long)
    where
      head_is : take 4 m ≡ get_or m 0 0 ∷ round_bytes (round_of m)
      head_is = ap (take 4) (drop-cons m 0 0 (omega (arith, q.long))) ∙ ap (λ (b : List ℕ). get_or m 0 0 ∷ b) q.round

-- ---- a record is kept

module _ (m r s : List ℕ) (q : IsQueue m) (free : get_or m 0 0 < 25) (made : s ≡ slot_of r) where
  abbrev rows : List Row
  rows = stored s (rows_of slot_size (get_or m 0 0) (slots_of m))

  pub rows_few : length rows ≤ 25
  rows_few =
      let few = length_rows_of slot_size (get_or m 0 0) (slots_of m) in
      rw (length_stored s (rows_of slot_size (get_or m 0 0) (slots_of m)))
      (cond_cases (λ (n : ℕ). n ≤ 25) (some (numbered_as s) (rows_of slot_size (get_or m 0 0) (slots_of m)))
      (λ _. omega arith) (λ _. omega arith))

  pub fits : length rows * slot_size ≤ length (slots_of m)
  fits = omega (arith, rows_few, slots_long m q)

  pub kept_is : (left : ℕ) (last : List ℕ) → left ≡ length rows → last ≡ packed (length (slots_of m)) rows → set (between m last) 0 left ≡ with_record r m
  unfolding with_record
  kept_is left last n b = counted_anew m q rows left last n b ∙ ap₂ (λ (w : Row) (ws : List Row). queue_of (round_of m) (stored w ws)) made (slots_rows m q)

-- ---- seats

pub zero_seat : (p : Seat) → length p ≡ 2 → (b : Bool) → b ≡ all_zero (drop 0 p) → b ≡ same p nobody
unfolding all_zero be16
zero_seat p two true e = sym (ap (λ (q : Seat). same q nobody) (zeros_replicate p (sym e) ∙ ap (λ (n : ℕ). replicate n 0) two) ∙ same_refl nobody)
zero_seat p two false e =
    bool_cases (same p nobody)
    (λ h. contradiction (ap all_zero (same_true p nobody h)) (sym e))
    (λ h. sym h)

pub key_same : (p : Seat) (w : Row) → length p ≡ 2 → has_key 0 p w ≡ same p (take 2 w)
unfolding has_key
key_same p w l = ap (λ (k : ℕ). same (take k w) p) l ∙ same_sym (take 2 w) p

some_key : (p : Seat) (ws : List Row) → length p ≡ 2 → some (has_key 0 p) ws ≡ some (same p) (map (take 2) ws)
unfolding some
some_key p [] l = refl
some_key p (w ∷ ws) l = ap₂ (λ (a b : Bool). a || b) (key_same p w l) (some_key p ws l)

module _ (count : ℕ) (creds : List ℕ) (p : Seat) (two : length p ≡ 2) (b : Bool) (z : b ≡ all_zero (drop 0 p)) where
  pub seat_zero : b ≡ true → true ≡ is_seat (seats_in count creds) p
  unfolding is_seat some
  seat_zero e = sym (rw (sym (zero_seat p two b z) ∙ e))

  pub seat_found : b ≡ false → (at : Option ℕ) → at ≡ index_of (has_key 0 p) (rows_in Creds count creds) → is_some at ≡ is_seat (seats_in count creds) p
  unfolding is_seat some
  seat_found e at f =
      ap is_some f ∙ sym (some_index 0 (has_key 0 p) (rows_in Creds count creds)) ∙ some_key p (rows_in Creds count creds) two
      ∙ rw (sym (zero_seat p two b z) ∙ e)

-- ---- the round

-- the seat that was taken last
pub seat_is : (m : List ℕ) → length m ≡ queue_size → get_or m 2 0 ∷ get_or m 3 0 ∷ [] ≡ take 2 (drop 2 m)
seat_is m long = simp get_or-drop at (two_of (drop 2 m) (omega (arith, long, length-drop 2 m)))

-- a seat's bytes, after 1
pub seat_bytes : (p : Seat) → length p ≡ 2 → 1 ∷ get_or p 0 0 ∷ get_or p 1 0 ∷ [] ≡ round_bytes (after_seat p)
seat_bytes p two = ap (λ (l : List ℕ). 1 ∷ l) (two_of p (omega arith) ∙ take_all 2 p (omega arith))

-- the round after a test of the seat that was taken last, where there is one
pub settled_is : (ps : List Seat) (Told : Seat → Bool → Type 0) (held : Bool) → ((p : Seat) (b : Bool) → Told p b → b ≡ (held && is_seat ps p))
    → (last kept : Option Seat) → MatchOption last (kept ≡ None) (λ p. (b : Bool) × Told p b × (kept ≡ then_some b p))
    → round_from kept ≡ valid_round ps (cond held (round_from last) anew)
settled_is ps Told held told None kept h = rw h (bool_cases held (λ e. rw e) (λ e. rw e))
settled_is ps Told held told (Some p) kept h =
    rw (h.2, told p h.0 h.1)
    (bool_cases held (λ e. rw e (bool_cases (is_seat ps p) (λ f. rw f) (λ f. rw f))) (λ e. rw e))

-- a slot stays whose seat is one of these
pub stays_is : (ps : List Seat) (slot : Row) (b : Bool) → b ≡ is_seat ps (take 2 slot) → b ≡ not (orphaned ps slot)
unfolding orphaned
stays_is ps slot b e = e ∙ bool_cases (is_seat ps (take 2 slot)) (λ f. rw f) (λ f. rw f)

-- slots without some are few
pub few_left : (m : List ℕ) (q : IsQueue m) (p : Row → Bool) (n : ℕ) → n ≡ length (without p (rows_of slot_size (get_or m 0 0) (slots_of m))) → n ≤ 25
few_left m q p n e = omega (arith, e, length_without p (rows_of slot_size (get_or m 0 0) (slots_of m)), length_rows_of slot_size (get_or m 0 0) (slots_of m), q.few)
