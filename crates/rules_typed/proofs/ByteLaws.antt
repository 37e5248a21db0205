-- Rows of bytes: a row's number is its two first bytes.
use Rattle.rows.proofs.Prelude.{◌≡◌, refl, sym, ap, ap₂, ◌∙◌, Bool, true, List, [], ◌∷◌, ℕ, zero, suc, ◌+◌, ◌-◌, ◌*◌, ◌/◌, ◌%◌, ◌^◌, ◌≤◌, ◌<◌, arith, length}
use Rattle.rows.proofs.Prelude.{take, drop, get_or, get_or-take, take-take, eqb, ltb, ltb-true, eqb-true, eqb-false, eq-eqb, ne_eqb, bool_cases, and_left}
use Rattle.rows.proofs.Prelude.{and_right, and_both}
use Rattle.rows.specs.Rows.{Row, same, has_key, numbered_as, every, rows_of}
use Rattle.rules.specs.Bits.{bit, bits, be16}
use Rattle.rules.specs.Bodies.{row_number}
use Rattle.rules.specs.Permission.{numbered}
use Rattle.rules.proofs.RecordLaws.{key_is}
use Rattle.rules_typed.specs.Tables.{is_bytes}
use Rattle.rules_typed.proofs.ListLaws.{Each}

pub byte_at : (r : List ℕ) → is_bytes r ≡ true → (i : ℕ) → get_or r i 0 < 256
unfolding is_bytes
byte_at [] h i = omega arith
byte_at (b ∷ r) h zero = ltb-true b 256 (and_left _ _ h)
byte_at (b ∷ r) h (suc i) = byte_at r (and_right (ltb b 256) _ h) i

pub bytes_take : (n : ℕ) (r : List ℕ) → is_bytes r ≡ true → is_bytes (take n r) ≡ true
unfolding is_bytes
bytes_take zero r h = refl
bytes_take (suc n) [] h = refl
bytes_take (suc n) (b ∷ r) h = and_both (ltb b 256) _ (and_left (ltb b 256) _ h) (bytes_take n r (and_right (ltb b 256) _ h))

pub bytes_drop : (n : ℕ) (r : List ℕ) → is_bytes r ≡ true → is_bytes (drop n r) ≡ true
unfolding is_bytes
bytes_drop zero r h = h
bytes_drop (suc n) [] h = refl
bytes_drop (suc n) (b ∷ r) h = bytes_drop n r (and_right (ltb b 256) _ h)

-- ---- the rows of bytes that pass a test are rows of bytes that pass it

abbrev pub Good : (Row → Bool) → Row → Type 0
Good passes w = (passes w ≡ true) × (is_bytes w ≡ true)

pub good_rows : (passes : Row → Bool) (s n : ℕ) (b : List ℕ) → is_bytes b ≡ true → every passes (rows_of s n b) ≡ true → Each (Good passes) (rows_of s n b)
unfolding every rows_of
good_rows passes s zero b h e = tt
good_rows passes s (suc n) b h e =
    ((and_left _ _ e, bytes_take s b h), good_rows passes s n (drop s b) (bytes_drop s b h) (and_right (passes (take s b)) _ e))

-- ---- numbers

pub two_same : (n m : ℕ) → same (be16 n) (be16 m) ≡ eqb n m
unfolding same be16
two_same n m =
    bool_cases (eqb n m)
    (λ e. let f : n ≡ m = eqb-true n m e in rw (f, eq-eqb (m / 256) (m / 256) refl, eq-eqb (m % 256) (m % 256) refl, eq-eqb m m refl))
    (λ e. bool_cases (eqb (n / 256) (m / 256))
    (λ f. rw (e, f, ne_eqb (n % 256) (m % 256) (λ g. eqb-false n m e (omega (arith, eqb-true (n / 256) (m / 256) f, g)))))
    (λ f. rw (e, f)))

pub two_bytes : (w : Row) → is_bytes w ≡ true → 2 ≤ length w → take 2 w ≡ be16 (row_number w)
two_bytes w h l = sym (key_is w 0 (omega arith) (byte_at w h 0) (byte_at w h 1))

module _ (w : Row) (h : is_bytes w ≡ true) (l : 2 ≤ length w) where
  pub numbered_read : (n : ℕ) → numbered n w ≡ eqb (row_number w) n
  unfolding has_key be16
  numbered_read n = ap (λ (k : List ℕ). same k (be16 n)) (two_bytes w h l) ∙ two_same (row_number w) n

  pub number_read : (other : Row) → is_bytes other ≡ true → 2 ≤ length other → numbered_as other w ≡ eqb (row_number w) (row_number other)
  unfolding numbered_as
  number_read other i m = ap₂ same (two_bytes w h l) (two_bytes other i m) ∙ two_same (row_number w) (row_number other)

-- ---- fields within the first bytes

bit_take : (k : ℕ) (r : List ℕ) (i : ℕ) → i < 8 * k → bit (take k r) i ≡ bit r i
unfolding bit
bit_take k r i h = ap (λ (x : ℕ). x / 2 ^ (7 - i % 8) % 2) (get_or-take k r (i / 8) 0 (omega arith))

pub bits_take : (k : ℕ) (r : List ℕ) (s w : ℕ) → s + w ≤ 8 * k → bits (take k r) s w ≡ bits r s w
unfolding bits
bits_take k r s zero h = refl
bits_take k r s (suc w) h = ap₂ (λ (x y : ℕ). x * 2 + y) (bits_take k r s w (omega arith)) (bit_take k r (s + w) (omega arith))

pub part_within : (a l m : ℕ) (w : List ℕ) → a + l ≤ m → take l (drop a (take m w)) ≡ take l (drop a w)
part_within zero l m w h = take-take l m w (omega arith)
part_within (suc a) l zero w h = absurd (omega arith)
part_within (suc a) l (suc m) [] h = refl
part_within (suc a) l (suc m) (x ∷ w) h = part_within a l m w (omega arith)
