-- Laws of the memory's bytes, as the code reads them.
use Rattle.rows.proofs.Prelude.{◌≡◌, refl, sym, ap, ◌∙◌, Bool, true, false, not, ◌&&◌, ◌||◌, and-false, and-true, or-false, drop-cons, bool_cases, List, []}
use Rattle.rows.proofs.Prelude.{ℕ, zero, suc, ◌+◌, ◌-◌, ◌*◌, ◌/◌, ◌%◌, ◌≤◌, ◌<◌, min-eq_left, arith, length, take, drop, get_or, replicate, eqb, eq-eqb}
use Rattle.rows.proofs.Prelude.{◌∷◌, ◌++◌, eqb-true, and_left, and_right, contradiction, le-leb, lt-leb, or_true_right}
use Rattle.rows.proofs.Prelude.{cond, eqb-false}
use mathlib.Core.Bool.{and_assoc}
use native.Mathlib.Numerals.{add-four}
use Rattle.rows.specs.Rows.{Row, same, has_key, all_zero, every, some, distinct_numbers, rows_of}
use Rattle.rows.proofs.AllZero.{zeros_part}
use Rattle.rows.proofs.Laws.{is_some, some_index}
use Rattle.std.specs.Prelude.{Option, Some, None}
use Rattle.std.specs.Int.{w16, to_be_bytes}
use Rattle.std.specs.Cmp.Lexicographic.{pointwise}
use Rattle.rows.proofs.Kept.{same_true}
use Rattle.rows.proofs.Prelude.{take_all, length-drop}
use Rattle.rows.specs.Promises.{index_from}
use Rattle.rules.specs.Bits.{bits, be16}
use Rattle.rules.specs.declared.Check.{Check}
use Rattle.rules.specs.declared.Check.TheVariants.{Pass, Refuse}
use Rattle.rules.specs.declared.Resource.{Resource}
use Rattle.rules.specs.declared.Sender.TheVariants.{Unauthenticated, Partner}
use Rattle.rules.specs.Record.{header_of, sender, credential}
use Rattle.rules.specs.Directory.{known, resource_of}
use Rattle.rules.specs.Permission.{connection_of}
use Rattle.rules.specs.Checks.{verdict, no_row, no_credential}
use Rattle.rules.specs.Promises.Callers.{lacks_row}
use Rattle.rules.specs.Promises.Groups.{sender_checks}
use Rattle.rules.proofs.RecordLaws.{key_is}
use Rattle.check_header.specs.Fields.{Has}
use Rattle.rules.proofs.BitLaws.{bits_part, bits_small, bits_word, word_is}
use Rattle.rules.proofs.Answers.{passed, long_enough}
use Rattle.rules_terminal.specs.Slots.{seat_of, padded, slot_of, record_of, round_bytes, round_of, waiting, queue_size, slot_size}
use Rattle.rules_terminal.specs.Terminal.{slot_sound, queue_sound}
use Rattle.rules_terminal.proofs.SlotLaws.{short_record, is_pass_lem, slot_long}

-- the round's bytes: zeros, or 1 and a seat
pub round_is : (m : List ℕ) → 4 ≤ length m → (e : Bool) → e ≡ pointwise eqb (take 3 (drop 1 m)) (0 ∷ 0 ∷ 0 ∷ [])
    → (eqb (get_or m 1 0) 1 || e) ≡ same (take 3 (drop 1 m)) (round_bytes (round_of m))
unfolding same round_of
round_is m h e is =
    rw (is, drop-cons m 1 0 (omega arith), drop-cons m 2 0 (omega arith), drop-cons m 3 0 (omega arith))
    (bool_cases (eqb (get_or m 1 0) 0)
    (λ z. rw (eqb-true (get_or m 1 0) 0 z, and-true))
    (λ z. rw (z, eq-eqb (get_or m 2 0) (get_or m 2 0) refl, eq-eqb (get_or m 3 0) (get_or m 3 0) refl, or-false, and-true)))

-- ---- a slot

later : (i k : ℕ) (b : List ℕ) → i ≤ k → all_zero (drop i b) ≡ true → all_zero (drop k b) ≡ true
later i k b h e =
    let at : i + (k - i) ≡ k = omega arith in
    ap (λ (j : ℕ). all_zero (drop j b)) (sym at) ∙ and_right (all_zero (take (k - i) (drop i b))) _ (sym (zeros_part (k - i) i b) ∙ e)

-- n bytes from i on, and those from k on, which begins within them or just after
pub overlap : (n i k : ℕ) (b : List ℕ) → i ≤ k → k ≤ i + n → (all_zero (take n (drop i b)) && all_zero (drop k b)) ≡ all_zero (drop i b)
overlap n i k b h l =
    let parts = zeros_part n i b in
    bool_cases (all_zero (drop i b))
    (λ e. rw (e, and_left (all_zero (take n (drop i b))) (all_zero (drop (i + n) b)) (sym parts ∙ e), later i k b h e))
    (λ e. rw e (bool_cases (all_zero (take n (drop i b)))
    (λ t. rw t (bool_cases (all_zero (drop k b)) (λ z. contradiction (parts ∙ rw (t, later k (i + n) b l z)) e) (λ z. z)))
    (λ t. rw t)))

-- bytes are the first n of them with zeros after exactly where the rest is zeros
zeros_behind : (n m : ℕ) (b : List ℕ) → m + n ≡ length b → same b (take n b ++ replicate m 0) ≡ all_zero (drop n b)
unfolding same all_zero
zeros_behind zero zero [] h = refl
zeros_behind zero (suc m) [] h = absurd (omega arith)
zeros_behind zero zero (x ∷ b) h = absurd (omega arith)
zeros_behind zero (suc m) (x ∷ b) h = ap (λ (k : Bool). eqb x 0 && k) (zeros_behind zero m b (omega arith))
zeros_behind (suc n) m [] h = absurd (omega arith)
zeros_behind (suc n) m (x ∷ b) h = rw (eq-eqb x x refl) (zeros_behind n m b (omega arith))

-- a slot of another length keeps no record
pub other_length : (ws : List Row) (w : Row) → (length w ≡ slot_size → ⊥) → false ≡ slot_sound ws w
unfolding slot_sound
other_length ws w other =
    bool_cases (slot_sound ws w)
    (λ e.
    let passes = is_pass_lem _ (and_right (same w (slot_of (record_of w))) _ e) in
    absurd (other (ap length (same_true _ _ (and_left _ _ e)) ∙ slot_long (record_of w) (short_record ws (record_of w) passes))))
    (λ e. sym e)

slot_bytes : (w r : List ℕ) → length w ≡ slot_size → r ≡ take (length r) (drop 4 w) → length r ≤ 256 → get_or r 2 0 < 256 → get_or r 3 0 < 256
    → (((eqb (get_or w 0 0) (get_or r 2 0) && eqb (get_or w 1 0) (get_or r 3 0)) && (eqb (get_or w 2 0) (length r / 256) && eqb (get_or w 3 0) (length r % 256)))
    && all_zero (drop (length r + 4) w))
    ≡ same w (slot_of r)
unfolding slot_of seat_of padded be16 same
slot_bytes [] r l e h x y = absurd (omega arith)
slot_bytes (a ∷ []) r l e h x y = absurd (omega arith)
slot_bytes (a ∷ b ∷ []) r l e h x y = absurd (omega arith)
slot_bytes (a ∷ b ∷ c ∷ []) r l e h x y = absurd (omega arith)
slot_bytes (a ∷ b ∷ c ∷ d ∷ w) r l e h x y =
    let number : be16 (credential r) ≡ get_or r 2 0 ∷ get_or r 3 0 ∷ [] = word_is r 2 x y in
    let long : length w ≡ 256 = omega arith in
    let rest : same w (r ++ replicate (256 - length r) 0) ≡ all_zero (drop (length r) w) =
    ap (λ (s : List ℕ). same w (s ++ replicate (256 - length r) 0)) e ∙ zeros_behind (length r) (256 - length r) w (omega arith) in
    let end : drop (length r + 4) (a ∷ b ∷ c ∷ d ∷ w) ≡ drop (length r) w = ap (λ (n : ℕ). drop n (a ∷ b ∷ c ∷ d ∷ w)) (add-four (length r)) in
    ap (λ (z : List ℕ). ((eqb a (get_or r 2 0) && eqb b (get_or r 3 0)) && (eqb c (length r / 256) && eqb d (length r % 256))) && all_zero z) end
    ∙ regroup (eqb a (get_or r 2 0)) (eqb b (get_or r 3 0)) (eqb c (length r / 256)) (eqb d (length r % 256)) (all_zero (drop (length r) w))
    ∙ ap (λ (k : Bool). eqb a (get_or r 2 0) && (eqb b (get_or r 3 0) && (eqb c (length r / 256) && (eqb d (length r % 256) && k)))) (sym rest)
    ∙ ap (λ (s : List ℕ). same (a ∷ b ∷ c ∷ d ∷ w) (s ++ (length r / 256 ∷ length r % 256 ∷ (r ++ replicate (256 - length r) 0)))) (sym number)
  where
    regroup : (p q u v z : Bool) → (((p && q) && (u && v)) && z) ≡ (p && (q && (u && (v && z))))
    regroup p q u v z = simp and_assoc

-- the tests of a slot's bytes, joined as the code has them
pub tested_slot : (w r size : List ℕ) → (length w ≡ slot_size) × (r ≡ take (length r) (drop 4 w)) × (4 ≤ length r) × (length r ≤ 256)
    → get_or r 2 0 < 256 → get_or r 3 0 < 256 → size ≡ to_be_bytes w16 (length r) → (a b z : Bool)
    → a ≡ pointwise eqb (take 2 w) (take 2 (drop 2 r)) → b ≡ pointwise eqb (take 2 (drop 2 w)) size → z ≡ all_zero (drop (length r + 4) w)
    → ((a && b) && z) ≡ same w (slot_of r)
tested_slot w r size h x y s a b z ha hb hz =
    let high : length r / 256 % 256 ≡ length r / 256 = omega (arith, h.3) in
    rw (
      ha,
      hb,
      hz,
      s,
      high,
      drop-cons w 0 0 (omega (arith, h.0)),
      drop-cons w 1 0 (omega (arith, h.0)),
      drop-cons w 2 0 (omega (arith, h.0)),
      drop-cons w 3 0 (omega (arith, h.0)),
      drop-cons r 2 0 (omega (arith, h.2)),
      drop-cons r 3 0 (omega (arith, h.2)),
      and-true,
      and-true,
    )
    (slot_bytes (get_or w 0 0 ∷ get_or w 1 0 ∷ get_or w 2 0 ∷ get_or w 3 0 ∷ drop 4 w) r (omega (arith, h.0, length-drop 4 w)) h.1 h.3 x y)

take_again : (k : ℕ) (s : List ℕ) → take k s ≡ take (length (take k s)) s
take_again zero s = refl
take_again (suc k) [] = refl
take_again (suc k) (x ∷ s) = ap (λ (l : List ℕ). x ∷ l) (take_again k s)

-- ---- the checks of a record

-- the header's fields, as parts of its first 16 bits
module _ (r : List ℕ) where
  abbrev word : ℕ
  word = bits r 0 16

  verb_is : bits r 0 3 ≡ word / 8192
  verb_is = bits_part r 0 0 3 16 (omega arith) ∙ omega (arith, bits_small r 0 16)

  pub connection_is : bits r 3 1 ≡ word / 4096 % 2
  connection_is = bits_part r 0 3 1 16 (omega arith)

  resource_is : bits r 4 6 ≡ word / 64 % 64
  resource_is = bits_part r 0 4 6 16 (omega arith)

  zeros_is : bits r 10 6 ≡ word % 64
  zeros_is = bits_part r 0 10 6 16 (omega arith) ∙ omega arith

  -- so the header has the fields that are looked at, where v is the word
  module _ (v : ℕ) (is_IsWord : v ≡ word) (l : 4 ≤ length r) (x : get_or r 2 0 < 256) (y : get_or r 3 0 < 256) where
    pub has_fields : (k : ℕ) → k ≡ bits (take 2 (drop 2 r)) 0 16 → (e : Resource) → e ≡ resource_of (v / 64 % 64)
        → Has (header_of r) (v / 8192) (v / 4096 % 2) (v % 64) k e.known
    has_fields k number e is =
        record {
          verb_is = verb_is ∙ ap (λ (n : ℕ). n / 8192) (sym is_IsWord);
          connection_is = connection_is ∙ ap (λ (n : ℕ). n / 4096 % 2) (sym is_IsWord);
          zeros_are = zeros_is ∙ ap (λ (n : ℕ). n % 64) (sym is_IsWord);
          credential_is =
              bits_word r 2 x y
              ∙ sym (number ∙ rw (drop-cons r 2 0 (omega arith), drop-cons r 3 0 (omega arith)) (bits_word (get_or r 2 0 ∷ get_or r 3 0 ∷ []) 0 x y));
          known_is = ap known (resource_is ∙ ap (λ (n : ℕ). n / 64 % 64) (sym is_IsWord)) ∙ sym (ap (λ (z : Resource). z.known) is);
        }

    -- and the sender is the one of that connection
    by_connection_lem : sender r ≡ cond (eqb (v / 4096 % 2) 1) (Partner (bits r 16 16)) Unauthenticated
    unfolding sender
    by_connection_lem = rw (le-leb 4 (length r) l, connection_is, is_IsWord)

    pub over : connection_of (sender r) ≡ v / 4096 % 2
    over = rw by_connection_lem (bool_cases (eqb (v / 4096 % 2) 1)
        (λ e. rw e (sym (eqb-true (v / 4096 % 2) 1 e)))
        (λ e. rw e (omega (arith, eqb-false (v / 4096 % 2) 1 e))))

    -- by a place that shows it of a partner
    pub row_shown : (ws : List Row) (p : Option ℕ)
        → (v / 4096 % 2 ≡ 1 → (n : ℕ) → take 2 (drop 2 r) ≡ be16 n → lacks_row (Partner n) p ≡ no_row ws (Partner n))
        → lacks_row (sender r) p ≡ no_credential ws (header_of r)
    unfolding no_credential
    row_shown ws p shows = rw by_connection_lem (bool_cases (eqb (v / 4096 % 2) 1)
        (λ e. rw e (shows (eqb-true (v / 4096 % 2) 1 e) (bits r 16 16) (sym (key_is r 2 l x y))))
        (λ e. rw e))

-- ---- the sender's row

-- a row that passes is one of them
row_passes : (passes : Row → Bool) (rows : List Row) (i : ℕ) → i < length rows → passes (get_or rows i []) ≡ true → some passes rows ≡ true
unfolding some
row_passes passes [] i h e = absurd (omega arith)
row_passes passes (row ∷ rows) zero h e = rw e
row_passes passes (row ∷ rows) (suc i) h e = or_true_right (passes row) (some passes rows) (row_passes passes rows i (omega arith) e)

-- the key is looked for at an index, and then by a search
module _ (rows : List Row) (key : List ℕ) where
  pub near : (i : ℕ) (row : List ℕ) → (i < length rows) × (row ≡ get_or rows i []) → (h : Bool) → h ≡ has_key 0 key row → h ≡ true → true ≡ some (has_key 0 key) rows
  near i row at h l t = sym (row_passes (has_key 0 key) rows i at.0 (ap (has_key 0 key) (sym at.1) ∙ sym l ∙ t))

  pub searched : (p : Option ℕ) → p ≡ index_from 0 (has_key 0 key) rows → is_some p ≡ some (has_key 0 key) rows
  searched p e = ap is_some e ∙ sym (some_index 0 (has_key 0 key) rows)

-- what a place says of a partner's row
pub lacks : (n : ℕ) (p : Option ℕ) → lacks_row (Partner n) p ≡ not (is_some p)
lacks n (Some i) = refl
lacks n None = refl

-- what the checks of a slot's record say of it
module _ (ws : List Row) (w r : List ℕ) (is : r ≡ record_of w) (c : Check) (told : c ≡ verdict (sender_checks ws r)) where
  pub fits : c ≡ Pass → (r ≡ take (length r) (drop 4 w)) × (4 ≤ length r) × (length r ≤ 256)
  unfolding record_of
  fits e = (
    is ∙ take_again (bits (drop 2 w) 0 16) (drop 4 w) ∙ ap (λ (l : List ℕ). take (length l) (drop 4 w)) (sym is),
    long_enough r (passed (sender_checks ws r) (sym told ∙ e) 2),
    short_record ws r (sym told ∙ e),
  )

  pub bad_record : (n : ℕ) → c ≡ Refuse n → false ≡ slot_sound ws w
  unfolding slot_sound
  bad_record n e = sym (rw (← is, ← told, e, and-false))

  pub kept_is : c ≡ Pass → (b : Bool) → b ≡ same w (slot_of r) → b ≡ slot_sound ws w
  unfolding slot_sound
  kept_is e b s = s ∙ rw (← is, ← told, e, and-true)

-- ---- the queue

pub too_many : (ws : List Row) (m : List ℕ) → 25 < get_or m 0 0 → false ≡ queue_sound ws m
unfolding queue_sound
too_many ws m l = sym (rw (lt-leb (get_or m 0 0) 25 l, and-false))

module _ (ws : List Row) (m part : List ℕ) (six : length m ≡ queue_size) (rest : part ≡ take 6500 (drop 4 m))
    (n : ℕ) (counted : n ≡ get_or m 0 0) (few : get_or m 0 0 ≤ 25) where
  part_is : part ≡ drop 4 m
  part_is = rest ∙ take_all 6500 (drop 4 m) (omega (arith, six, length-drop 4 m))

  pub tested : (r z s d : Bool) → r ≡ same (take 3 (drop 1 m)) (round_bytes (round_of m)) → z ≡ all_zero (drop (n * slot_size) part)
      → s ≡ every (slot_sound ws) (waiting m) → d ≡ distinct_numbers (rows_of slot_size n part) → (((r && z) && s) && d) ≡ queue_sound ws m
  unfolding queue_sound waiting
  tested r z s d hr hz hs hd =
      rw (hr, hz, hs, hd, part_is, counted, eq-eqb (length m) queue_size six, le-leb (get_or m 0 0) 25 few, min-eq_left few)

  -- where nothing waits, the round and the zeros are all there is
  pub tested_empty : (r z : Bool) → n ≡ 0 → r ≡ same (take 3 (drop 1 m)) (round_bytes (round_of m)) → z ≡ all_zero (drop (n * slot_size) part)
      → (r && z) ≡ queue_sound ws m
  unfolding every distinct_numbers rows_of waiting
  tested_empty r z e hr hz =
      let none : get_or m 0 0 ≡ 0 = sym counted ∙ e in
      sym (and-true (r && z)) ∙ sym (and-true ((r && z) && true)) ∙ tested r z true true hr hz (rw none) (rw e)
