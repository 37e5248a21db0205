-- Two rows are equal where their packed fields agree one after the other, from the first bit to the last.
use Rattle.rows.proofs.Prelude.{◌≡◌, refl, sym, ap, ap₂, ◌∙◌, true, List, [], ◌∷◌, ℕ, zero, suc, ◌+◌, ◌-◌, ◌*◌, ◌/◌, ◌%◌, ◌^◌, ◌≤◌, ◌<◌, add-one, arith}
use Rattle.rows.proofs.Prelude.{length, take, drop, get_or, get_or-drop, get_or-take, eqb, ltb, eqb-false, eqb-true, ltb-false, ltb-true, and_left, and_right}
use Rattle.rows.proofs.Prelude.{bool_cases}
use lib.Seq.{ext_get_or}
use Rattle.rows.specs.Rows.{all_zero}
use Rattle.rows.proofs.Laws.{zeros_replicate}
use Rattle.rules.specs.Bits.{bit, bits}
use Rattle.rules.proofs.BitLaws.{bits_byte, bits_more, bit_small}
use Rattle.rules_office.specs.Written.{all, is_byte}

byte_bound : (r : List ℕ) → all is_byte r ≡ true → (i : ℕ) → get_or r i 0 < 256
byte_bound [] h i = omega arith
byte_bound (b ∷ r) h zero = ltb-true b 256 (and_left _ _ h)
byte_bound (b ∷ r) h (suc i) = byte_bound r (and_right (is_byte b) _ h) i

-- two lists of zeros
pub zeros_same : (r s : List ℕ) → length r ≡ length s → all_zero r ≡ true → all_zero s ≡ true → r ≡ s
zeros_same r s l h k = zeros_replicate r h ∙ rw l (sym (zeros_replicate s k))

-- a field of one bit more, over plain numbers
split_last : (a b x y : ℕ) → x < 2 → y < 2 → a * 2 + x ≡ b * 2 + y → (a ≡ b) × (x ≡ y)
split_last a b x y hx hy e = (omega arith, omega arith)

module _ (r s : List ℕ) where
  -- the bits before `end` agree
  abbrev pub Agree : ℕ → Type 0
  Agree end = (i : ℕ) → i < end → bit r i ≡ bit s i

  pub agree_none : Agree 0
  agree_none i h = absurd (omega arith)

  pub agree_bit : (b : ℕ) → Agree b → bit r b ≡ bit s b → Agree (suc b)
  agree_bit b f e i h = bool_cases (eqb i b) (λ q. rw (eqb-true i b q) e) (λ q. f i (omega (arith, eqb-false i b q)))

  parts : (b width : ℕ) → bits r b (width + 1) ≡ bits s b (width + 1) → (bits r b width ≡ bits s b width) × (bit r (b + width) ≡ bit s (b + width))
  parts b width e =
      split_last (bits r b width) (bits s b width) (bit r (b + width)) (bit s (b + width)) (bit_small r (b + width)) (bit_small s (b + width))
      (sym (bits_more r b width) ∙ e ∙ bits_more s b width)

  -- one more field agrees
  pub agree_field : (b width : ℕ) → Agree b → bits r b width ≡ bits s b width → Agree (b + width)
  agree_field b zero f e i h = f i (omega arith)
  agree_field b (suc width) f e i h =
      let p = parts b width (rw add-one e) in
      agree_bit (b + width) (agree_field b width f p.0) p.1 i (omega arith)

  at_part : (t : List ℕ) (start count j : ℕ) → j < count → get_or (take count (drop start t)) j 0 ≡ get_or t (start + j) 0
  at_part t start count j l = get_or-take count (drop start t) j 0 l ∙ get_or-drop start t j 0

  -- that many whole bytes
  pub agree_part : (start count : ℕ) → Agree (8 * start) → take count (drop start r) ≡ take count (drop start s) → Agree (8 * (start + count))
  unfolding bit
  agree_part start count f e i h =
      bool_cases (ltb i (8 * start))
      (λ q. f i (ltb-true i (8 * start) q))
      (λ q. let l = ltb-false i (8 * start) q in
      let j : start + (i / 8 - start) ≡ i / 8 = omega arith in
      let k : i / 8 - start < count = omega arith in
      ap (λ (x : ℕ). x / 2 ^ (7 - i % 8) % 2)
      (ap (λ (n : ℕ). get_or r n 0) (sym j) ∙ sym (at_part r start count (i / 8 - start) k)
      ∙ ap (λ (w : List ℕ). get_or w (i / 8 - start) 0) e ∙ at_part s start count (i / 8 - start) k ∙ ap (λ (n : ℕ). get_or s n 0) j))

  bits_agree : (b width : ℕ) → ((i : ℕ) → b ≤ i → i < b + width → bit r i ≡ bit s i) → bits r b width ≡ bits s b width
  unfolding bits
  bits_agree b zero f = refl
  bits_agree b (suc width) f =
      ap₂ (λ (x y : ℕ). x * 2 + y) (bits_agree b width (λ i h l. f i h (omega arith))) (f (b + width) (omega arith) (omega arith))

  -- all bits agree
  pub agree_all : length r ≡ length s → all is_byte r ≡ true → all is_byte s ≡ true → Agree (8 * length r) → r ≡ s
  agree_all l hr hs f =
      ext_get_or 0 r s l
      (λ i h. sym (bits_byte r i (byte_bound r hr i)) ∙ bits_agree (8 * i) 8 (λ j a b. f j (omega arith)) ∙ bits_byte s i (byte_bound s hs i))
