-- Laws of slots and of the caller's memory: what is put in is read back.
use Rattle.rows.proofs.Prelude.{◌≡◌, refl, sym, ap, ◌∙◌, true, List, [], ◌∷◌, ◌++◌, ℕ, ◌-◌, ◌*◌, ◌≤◌, min, min-eq_left, arith, length, take, drop, get_or}
use Rattle.rows.proofs.Prelude.{replicate, length-append, length-drop, length-replicate, drop_at, length-take-le, take_at, eqb, leb, ltb, eq-eqb, eqb-true}
use Rattle.rows.proofs.Prelude.{le-leb, leb-true, ltb-false, cond_cases, take-append-drop, contradiction, and_left, and_right, and_both, or_right}
use Rattle.rows.specs.Rows.{Row, rows_of, packed, all_zero, same, every, distinct_numbers}
use Rattle.rows.specs.Promises.{IsTable}
use Rattle.rows.proofs.Laws.{length_rows_of, kept as table_kept}
use Rattle.rows.proofs.Kept.{AllLong, every_long, rows_of_packed, packed_table, length_packed, same_true, same_refl}
use Rattle.rules.specs.declared.Tables.{Tables}
use Rattle.rules.specs.declared.Check.{Check}
use Rattle.rules.specs.declared.Check.TheVariants.{Pass, Refuse}
use Rattle.rules.specs.Bits.{bits, be16}
use Rattle.rules.specs.Checks.{verdict, is_pass, bad_length}
use Rattle.rules.specs.Promises.Groups.{sender_checks}
use Rattle.rules.proofs.BitLaws.{bits_word}
use Rattle.rules.proofs.Answers.{passed}
use Rattle.rules_terminal.specs.Slots.{Seat, Round, anew, after_seat, slot_size, queue_capacity, slots_size, queue_size, seat_of, padded, slot_of, record_of, round_bytes}
use Rattle.rules_terminal.specs.Slots.{round_of, waiting, queue_of}
use Rattle.rules_terminal.specs.Terminal.{slot_sound, queue_sound}
use Rattle.rules.specs.Tables.{rows}
use Rattle.rules.specs.declared.Table.TheVariants.{Creds}

-- ---- slots

module _ (r : List ℕ) where
  -- a record comes out of its slot byte for byte
  pub record_back : length r ≤ 256 → record_of (slot_of r) ≡ r
  unfolding slot_of padded record_of seat_of be16
  record_back h =
      let n : bits (drop 2 (slot_of r)) 0 16 ≡ length r = bits_word (drop 2 (slot_of r)) 0 (omega arith) (omega arith) ∙ omega arith in
      take_at r (replicate (256 - length r) 0) (bits (drop 2 (slot_of r)) 0 16) (sym n)

  pub slot_long : length r ≤ 256 → length (slot_of r) ≡ slot_size
  unfolding slot_of padded seat_of be16
  slot_long h = simp (length-append, length-replicate) (omega arith)

  pub slot_seat : take 2 (slot_of r) ≡ seat_of r
  unfolding slot_of padded seat_of be16
  slot_seat = refl

  pub slot_two : 2 ≤ length (slot_of r)
  unfolding slot_of padded seat_of be16
  slot_two = omega arith

pub is_pass_lem : (c : Check) → is_pass c ≡ true → c ≡ Pass
is_pass_lem Pass e = refl
is_pass_lem (Refuse n) e = contradiction e refl

-- what a sound slot keeps
pub record Keeps (t : Tables) (w : Row) : Type 0 where
  pub is : w ≡ slot_of (record_of w)
  pub passes : verdict (sender_checks (rows Creds t) (record_of w)) ≡ Pass

pub short_record : (ws : List Row) (r : List ℕ) → verdict (sender_checks ws r) ≡ Pass → length r ≤ 256
unfolding bad_length
short_record ws r e = ltb-false 256 (length r) (or_right (ltb (length r) 4) _ (passed (sender_checks ws r) e 2))

pub slot_parts : (t : Tables) (w : Row) → slot_sound (rows Creds t) w ≡ true → Keeps t w
unfolding slot_sound
slot_parts t w h = record { is = same_true _ _ (and_left _ _ h); passes = is_pass_lem _ (and_right (same w (slot_of (record_of w))) _ h) }

pub slot_whole : (t : Tables) (w : Row) → Keeps t w → slot_sound (rows Creds t) w ≡ true
unfolding slot_sound
slot_whole t w k = and_both _ _ (ap (same w) (sym k.is) ∙ same_refl w) (ap is_pass k.passes)

module _ (t : Tables) (w : Row) (h : slot_sound (rows Creds t) w ≡ true) where
  pub slot_length : length w ≡ slot_size
  slot_length = let k = slot_parts t w h in ap length k.is ∙ slot_long (record_of w) (short_record (rows Creds t) (record_of w) k.passes)

  pub slot_key : take 2 w ≡ seat_of (record_of w)
  slot_key = let k = slot_parts t w h in ap (take 2) k.is ∙ slot_seat (record_of w)

-- a record that passes 2 to 7 makes a sound slot
pub slot_made : (t : Tables) (r : List ℕ) → verdict (sender_checks (rows Creds t) r) ≡ Pass → slot_sound (rows Creds t) (slot_of r) ≡ true
slot_made t r e =
    let b = record_back r (short_record (rows Creds t) r e) in
    slot_whole t (slot_of r) (record { is = ap slot_of (sym b); passes = ap (λ (x : List ℕ). verdict (sender_checks (rows Creds t) x)) b ∙ e })

pub slots_long : (t : Tables) (ws : List Row) → every (slot_sound (rows Creds t)) ws ≡ true → AllLong slot_size ws
slots_long t ws h = every_long slot_size (slot_sound (rows Creds t)) (slot_length t) ws h

-- ---- the queue

-- the round's seat has two bytes
abbrev pub TwoLong : Round → Type 0
TwoLong anew = Unit {0}
TwoLong (after_seat p) = length p ≡ 2

round_long : (k : Round) → TwoLong k → length (round_bytes k) ≡ 3
round_long anew h = refl
round_long (after_seat p) h = omega arith

module _ (k : Round) (ws : List Row) (two : TwoLong k) where
  slots_behind : drop 4 (queue_of k ws) ≡ packed slots_size ws
  unfolding queue_of
  slots_behind = drop_at (round_bytes k) (packed slots_size ws) 3 (round_long k two)

  pub waiting_back : length ws ≤ 25 → AllLong slot_size ws → waiting (queue_of k ws) ≡ ws
  unfolding waiting queue_of
  waiting_back few long = rw (slots_behind, min-eq_left few) (rows_of_packed slot_size slots_size ws long)

-- two bytes of a list at its start
pub round_back : (k : Round) (ws : List Row) → TwoLong k → round_of (queue_of k ws) ≡ k
unfolding round_of queue_of
round_back anew ws two = refl
round_back (after_seat p) ws two = ap (λ (q : Seat). after_seat q) (take_at p (packed slots_size ws) 2 two)

-- the parts of the memory's soundness
pub record SoundQueue (t : Tables) (m : List ℕ) : Type 0 where
  pub long : eqb (length m) queue_size ≡ true
  pub few : leb (get_or m 0 0) queue_capacity ≡ true
  pub round : same (take 3 (drop 1 m)) (round_bytes (round_of m)) ≡ true
  pub unused : all_zero (drop (get_or m 0 0 * slot_size) (drop 4 m)) ≡ true
  pub keeps : every (slot_sound (rows Creds t)) (waiting m) ≡ true
  pub distinct : distinct_numbers (waiting m) ≡ true

pub queue_parts : (t : Tables) (m : List ℕ) → queue_sound (rows Creds t) m ≡ true → SoundQueue t m
unfolding queue_sound
queue_parts t m h = search (and_left, and_right) depth 9

queue_whole : (t : Tables) (m : List ℕ) → SoundQueue t m → queue_sound (rows Creds t) m ≡ true
unfolding queue_sound
queue_whole t m p = search (and_both) depth 9

-- the memory with a round and sound slots
pub queue_sound_lem : (t : Tables) (k : Round) (ws : List Row) → TwoLong k → length ws ≤ 25 → every (slot_sound (rows Creds t)) ws ≡ true → distinct_numbers ws ≡ true
    → queue_sound (rows Creds t) (queue_of k ws) ≡ true
unfolding queue_of
queue_sound_lem t k ws two few all distinct =
    let long = slots_long t ws all in
    let back = waiting_back k ws two few long in
    let size : length (packed slots_size ws) ≡ 6500 = length_packed slot_size slots_size ws long (omega arith) in
    queue_whole t (queue_of k ws) (record {
      long = eq-eqb (length (queue_of k ws)) queue_size (omega (arith, length-append (round_bytes k) (packed slots_size ws), round_long k two));
      few = le-leb (length ws) 25 few;
      round = rw (take_at (round_bytes k) (packed slots_size ws) 3 (round_long k two), round_back k ws two) (same_refl (round_bytes k));
      unused = rw (slots_behind k ws two) (packed_table slot_size slots_size ws (omega arith) long (omega arith)).zeros;
      keeps = rw back all;
      distinct = rw back distinct;
    })

-- the round of sound memory
pub round_two : (t : Tables) (m : List ℕ) → queue_sound (rows Creds t) m ≡ true → TwoLong (round_of m)
unfolding round_of
round_two t m h =
    cond_cases TwoLong (eqb (get_or m 1 0) 0) (λ _. tt)
    (λ _. length-take-le 2 (drop 2 m) (omega (arith, eqb-true (length m) queue_size (queue_parts t m h).long, length-drop 2 m)))

four_bytes : (m : List ℕ) → 4 ≤ length m → m ≡ get_or m 0 0 ∷ (take 3 (drop 1 m) ++ drop 4 m)
four_bytes [] h = absurd (omega arith)
four_bytes (a ∷ m) h = ap (λ (b : List ℕ). a ∷ b) (sym (take-append-drop 3 m))

-- memory that is sound is what its round and slots make
pub queue_is : (t : Tables) (m : List ℕ) → queue_sound (rows Creds t) m ≡ true → queue_of (round_of m) (waiting m) ≡ m
unfolding queue_of waiting
queue_is t m h =
    let p = queue_parts t m h in
    let six : length m ≡ queue_size = eqb-true _ _ p.long in
    let few : get_or m 0 0 ≤ 25 = leb-true _ _ p.few in
    let size : length (drop 4 m) ≡ 6500 = omega (arith, length-drop 4 m) in
    let n : min (get_or m 0 0) 25 ≡ get_or m 0 0 = min-eq_left few in
    let table : IsTable slot_size (get_or m 0 0) (drop 4 m) = record { numbered = omega arith; fits = omega arith; zeros = p.unused } in
    let b : packed 6500 (rows_of slot_size (get_or m 0 0) (drop 4 m)) ≡ drop 4 m =
    ap (λ (k : ℕ). packed k (rows_of slot_size (get_or m 0 0) (drop 4 m))) (sym size) ∙ sym (table_kept slot_size (get_or m 0 0) (drop 4 m) table) in
    rw (n, length_rows_of slot_size (get_or m 0 0) (drop 4 m), b, ← same_true _ _ p.round) (sym (four_bytes m (omega arith)))
