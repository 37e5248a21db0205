-- An old row's fields as code reads them, and the bytes of the rows made of it.
use Rattle.rows.proofs.Prelude.{◌≡◌, sym, ap, ◌∙◌, true, false, not, ◌||◌, List, [], ◌∷◌, ◌++◌, append_assoc, append-nil, ℕ, ◌+◌, ◌*◌, ◌/◌, ◌%◌, ◌≤◌, ◌<◌}
use Rattle.rows.proofs.Prelude.{arith, zero, suc, ◌-◌, length, take, drop, get_or, replicate, length-append, drop_of_length-le, take_all, eqb}
use mathlib.Core.Bool.{not-not}
use Rattle.std.specs.Int.{w16, to_be_bytes}
use Rattle.text.specs.Buffer.{written, largest, Puts}
use Rattle.text.proofs.Buffers.{puts_then, written_start}
use Rattle.rows.specs.Rows.{Row, joined, with_row}
use Rattle.rows.proofs.Laws.{take_rest, lent_rest}
use Rattle.rules.specs.Bits.{bit, be16}
use Rattle.rules.specs.Bodies.{set_known, every_second}
use Rattle.rules.proofs.BitLaws.{bits_in_byte}
use Rattle.rules_legacy.specs.OldList.{old_subject, old_permission, old_zeros, old_set, is_anybody, bad_row}
use Rattle.rules_legacy.specs.Conversion.{entry, uuid_entry, connection_entry, entries_of, numbered_from}
use Rattle.rules_legacy.proofs.BitParts.{bit_drop}
use Rattle.rules_legacy.proofs.Made.{made}
use Rattle.rules_legacy.proofs.SameUnion.{made_uuid, made_connection}
use Rattle.rules_legacy.proofs.Stored.{set_known_lem}
use Rattle.rules.specs.Sizes.{ace_row_size}

-- ---- the fields

permission_byte : (o : Row) → get_or o 16 0 < 256 → old_permission o ≡ get_or o 16 0 / 8
permission_byte o h = bits_in_byte o 16 0 5 (omega arith) ∙ omega arith

zeros_byte : (o : Row) → old_zeros o ≡ get_or o 16 0 % 8
zeros_byte o = bits_in_byte o 16 5 3 (omega arith) ∙ omega arith

-- the set is 13 bytes later than in an access row
pub bad_is : (o : Row) (b : ℕ) → b ≡ get_or o 16 0 → (not (eqb (b % 8) 0) || not (set_known (drop 13 o) 64)) ≡ bad_row o
unfolding bad_row
bad_is o b e =
    rw (
      e,
      zeros_byte o,
      set_known_lem o (drop 13 o) (λ n h. ap (λ (x : ℕ). eqb x 1) (bit_drop 13 o (32 + n) ∙ ap (bit o) (omega arith))) 64 (omega arith),
      not-not,
    )

-- ---- a row made, in the four parts in which it is put

row_puts : {o o₁ o₂ o₃ o₄ : List ℕ} {at r₁ r₂ r₃ r₄ : ℕ} (i kind : ℕ) (subject set : List ℕ) (row : Row) (b : ℕ) → length o ≤ largest
    → b ≡ get_or row 16 0 → b < 256 → set ≡ old_set row
    → Puts o at (i / 256 ∷ i % 256 ∷ (kind * 64 + b / 8 * 2) ∷ 0 ∷ []) o₁ r₁ → Puts o₁ r₁ set o₂ r₂ → Puts o₂ r₂ subject o₃ r₃ → Puts o₃ r₃ every_second o₄ r₄
    → Puts o at (be16 i ++ entry kind subject row) o₄ r₄
unfolding entry be16
row_puts i kind subject set row b h e l f p q r s =
    rw (permission_byte row (rw (← e) l), ← e, ← f, ← append_assoc set subject every_second)
    (puts_then h (puts_then h (puts_then h p q) r) s)

-- a text as long as the buffer is all that is there
exact : {o o' : List ℕ} {r : ℕ} (text : List ℕ) → length o ≡ length text → Puts o 0 text o' r → o' ≡ text
exact {o} text h p =
    let fits : length text ≤ length o = omega arith in
    let all : length o ≤ length text = omega arith in
    p.buffer ∙ written_start o text fits ∙ rw (drop_of_length-le o all, append-nil)

-- the row that is made, where an old row has its 25 bytes and a subject its 16
pub row_is : {o₁ o₂ o₃ o₄ number : List ℕ} {r₁ r₂ r₃ r₄ : ℕ} (i kind : ℕ) (subject row set : List ℕ) (b : ℕ) → kind < 4 → length subject ≡ 16 → length row ≡ 25
    → number ≡ to_be_bytes w16 i → i < 65536 → b ≡ get_or (take 25 row) 16 0 → b < 256 → set ≡ old_set (take 25 row)
    → Puts (replicate ace_row_size 0) 0 (get_or number 0 0 ∷ get_or number 1 0 ∷ (kind * 64 + b / 8 * 2) ∷ 0 ∷ []) o₁ r₁ → Puts o₁ r₁ set o₂ r₂ → Puts o₂ r₂ (take 16 subject) o₃ r₃
    → Puts o₃ r₃ every_second o₄ r₄
    → o₄ ≡ be16 i ++ entry kind subject row
row_is i kind subject row set b k l m d j e n f p q r s =
    let high : i / 256 % 256 ≡ i / 256 = omega arith in
    let w = take_all 25 row (omega arith) in
    let v = take_all 16 subject (omega arith) in
    exact (be16 i ++ entry kind subject row) (sym (made i kind subject row k m l).long)
    (row_puts i kind subject set row b (omega arith) (e ∙ ap (λ (x : Row). get_or x 16 0) w) n (f ∙ ap (λ (x : Row). old_set x) w) (rw (d, high) at p) q (rw v at r) s)

-- ---- that row put over a part of the buffer

written_at : (o : List ℕ) (at : ℕ) (s : List ℕ) → at + length s ≤ length o → written o at s ≡ take at o ++ (s ++ drop (length s) (drop at o))
unfolding written
written_at o zero s h = written_start o s (omega arith)
written_at [] (suc at) s h = absurd (omega arith)
written_at (b ∷ o) (suc at) s h = ap (λ (l : List ℕ). b ∷ l) (written_at o at s (omega arith))

-- the part from `at` on is passed in, and comes back as y
pub row_put : (o : List ℕ) (at : ℕ) (text made y : List ℕ) → length o ≤ largest → at + ace_row_size ≤ length o → length text ≡ ace_row_size → made ≡ text
    → y ≡ with_row ace_row_size 0 made (take (length o - at) (drop at o)) → Puts o at text (take at o ++ (y ++ drop (length o - at) (drop at o))) (at + ace_row_size)
unfolding with_row
row_put o at text made y h fits l m e = record {
  next = omega arith;
  buffer = lent_rest at o y
      ∙ ap (λ (t : List ℕ). take at o ++ t) (e ∙ rw (m, take_rest))
      ∙ sym (rw l at (written_at o at text (omega arith)));
}

-- ---- the rows made of an old row

pub two_long : (i : ℕ) (row : Row) → length row ≡ 25 → is_anybody row ≡ true → length (joined (numbered_from i (entries_of row))) ≡ 72
unfolding entries_of numbered_from joined
two_long i row l e =
    let first = (made_connection i row l 1).long in
    let second = (made_connection (i + 1) row l 0).long in
    rw (e, append-nil) (omega (arith, length-append (be16 i ++ connection_entry 1 row) (be16 (i + 1) ++ connection_entry 0 row)))

-- the position after the first of the two
pub after_first : {o o₁ : List ℕ} {at r₁ : ℕ} (i connection : ℕ) (row : Row) → length row ≡ 25 → length o ≤ largest → at + ace_row_size ≤ length o
    → Puts o at (be16 i ++ connection_entry connection row) o₁ r₁ → r₁ ≡ at + ace_row_size
after_first i connection row l h fits p = omega (arith, p.next, (made_connection i row l connection).long)

pub one_long : (i : ℕ) (row : Row) → length row ≡ 25 → is_anybody row ≡ false → length (joined (numbered_from i (entries_of row))) ≡ ace_row_size
unfolding entries_of numbered_from joined
one_long i row l e = rw (e, append-nil) (made_uuid i row l).long

pub two_puts : {o o₁ o₂ : List ℕ} {at r₁ r₂ : ℕ} (i : ℕ) (row : Row) → length o ≤ largest → is_anybody row ≡ true
    → Puts o at (be16 i ++ connection_entry 1 row) o₁ r₁ → Puts o₁ r₁ (be16 (i + 1) ++ connection_entry 0 row) o₂ r₂
    → Puts o at (joined (numbered_from i (entries_of row))) o₂ r₂
unfolding entries_of numbered_from joined
two_puts i row h e p q = rw (e, append-nil) (puts_then h p q)

pub one_puts : {o o₁ : List ℕ} {at r₁ : ℕ} (i : ℕ) (row : Row) → is_anybody row ≡ false
    → Puts o at (be16 i ++ entry 0 (old_subject row) row) o₁ r₁ → Puts o at (joined (numbered_from i (entries_of row))) o₁ r₁
unfolding entries_of numbered_from joined uuid_entry
one_puts i row e p = rw (e, append-nil) p
