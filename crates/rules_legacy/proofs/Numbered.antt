-- Rows numbered one after the other, whatever follows the numbers: how many they are, their numbers, and that no number occurs twice.
use Rattle.rows.proofs.Prelude.{◌≡◌, refl, ap, ap₂, ◌∙◌, true, false, ◌&&◌, List, [], ◌∷◌, ◌++◌, map, ℕ, suc, ◌+◌, ◌/◌, ◌%◌, ◌≤◌, ◌<◌, add-zero, arith}
use Rattle.rows.proofs.Prelude.{length, eqb, eqb-true, bool_cases, and_left, and_right, or_neither}
use Rattle.rows.specs.Rows.{Row, same, numbered_as, some, distinct_numbers}
use Rattle.rules.specs.Bits.{be16}
use Rattle.rules.specs.Bodies.{row_number}
use Rattle.rules.proofs.BitLaws.{bits_word}
use Rattle.rules_legacy.specs.Conversion.{numbered_from, numbers_from}

pub numbered_length : (i : ℕ) (es : List (List ℕ)) → length (numbered_from i es) ≡ length es
unfolding numbered_from
numbered_length i [] = refl
numbered_length i (e ∷ es) = ap suc (numbered_length (i + 1) es)

pub numbered_append : (i : ℕ) (es ds : List (List ℕ)) → numbered_from i (es ++ ds) ≡ numbered_from i es ++ numbered_from (i + length es) ds
unfolding numbered_from
numbered_append i [] ds = rw add-zero
numbered_append i (e ∷ es) ds =
    let n : i + suc (length es) ≡ i + 1 + length es = omega arith in
    ap (λ (ws : List Row). (be16 i ++ e) ∷ ws) (rw n (numbered_append (i + 1) es ds))

-- ---- the numbers are those from i on

pub number_is : (i : ℕ) (e : List ℕ) → i < 65536 → row_number (be16 i ++ e) ≡ i
unfolding be16
number_is i e h = bits_word (be16 i ++ e) 0 (omega arith) (omega arith) ∙ omega arith

pub numbers_are : (i : ℕ) (es : List (List ℕ)) → i + length es ≤ 65536 → map row_number (numbered_from i es) ≡ numbers_from i (length es)
unfolding numbered_from
numbers_are i [] h = refl
numbers_are i (e ∷ es) h = ap₂ (λ (x : ℕ) (ns : List ℕ). x ∷ ns) (number_is i e (omega arith)) (numbers_are (i + 1) es (omega arith))

-- ---- none occurs twice

be16_distinct : (j i : ℕ) → j < i → same (be16 i) (be16 j) ≡ false
unfolding same be16
be16_distinct j i h =
    bool_cases (eqb (i / 256) (j / 256) && (eqb (i % 256) (j % 256) && true))
    (λ e.
    let high : i / 256 ≡ j / 256 = eqb-true (i / 256) (j / 256) (and_left _ _ e) in
    let low : i % 256 ≡ j % 256 = eqb-true (i % 256) (j % 256) (and_left _ _ (and_right (eqb (i / 256) (j / 256)) _ e)) in
    absurd (omega arith))
    (λ e. e)

none_numbered : (j i : ℕ) (d : List ℕ) (es : List (List ℕ)) → j < i → some (numbered_as (be16 j ++ d)) (numbered_from i es) ≡ false
unfolding some numbered_from numbered_as be16
none_numbered j i d [] h = refl
none_numbered j i d (e ∷ es) h = or_neither _ _ (be16_distinct j i h) (none_numbered j (i + 1) d es (omega arith))

pub numbers_distinct : (i : ℕ) (es : List (List ℕ)) → distinct_numbers (numbered_from i es) ≡ true
unfolding distinct_numbers numbered_from
numbers_distinct i [] = refl
numbers_distinct i (e ∷ es) = rw (none_numbered i (i + 1) e es (omega arith), numbers_distinct (i + 1) es)
