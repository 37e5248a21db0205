-- Decimals before a byte that is no digit: the number that the digits show is the number.
use Rattle.rows.proofs.Prelude.{◌≡◌, refl, sym, ap, ◌∙◌, Bool, true, false, ◌&&◌, List, [], ◌∷◌, ◌++◌, ℕ, zero, suc, ◌+◌, ◌-◌, ◌*◌, ◌/◌, ◌≤◌, arith, leb, ltb}
use Rattle.rows.proofs.Prelude.{le-leb, ltb-false, ltb-true, and_both, cond_cases}
use Rattle.text.specs.Text.{last_digit, decimal_in, decimal}
use Rattle.rules_office.specs.Written.{all}
use Rattle.rules_office.proofs.Codes.{all_join, span}

abbrev pub is_digit : ℕ → Bool
is_digit d = leb 48 d && leb d 57

-- the number that digits show, after the digits of `before`
value : ℕ → List ℕ → ℕ
value before [] = before
value before (d ∷ ds) = value (before * 10 + (d - 48)) ds

value_last : (n d : ℕ) (ds : List ℕ) → value n (ds ++ d ∷ []) ≡ value n ds * 10 + (d - 48)
unfolding value
value_last n d [] = refl
value_last n d (x ∷ ds) = value_last (n * 10 + (x - 48)) d ds

value_decimal : (k n : ℕ) → n ≤ k → value 0 (decimal_in k n) ≡ n
unfolding value decimal_in
value_decimal zero n h = omega arith
value_decimal (suc k) n h =
    cond_cases (λ (ds : List ℕ). value 0 ds ≡ n) (ltb n 10)
    (λ e. omega (arith, ltb-true n 10 e))
    (λ e. value_last 0 (last_digit n) (decimal_in k (n / 10)) ∙ omega (arith, value_decimal k (n / 10) (omega (arith, ltb-false n 10 e))))

digit : (n : ℕ) → all is_digit (last_digit n ∷ []) ≡ true
digit n = and_both _ true (and_both _ _ (le-leb 48 (last_digit n) (omega arith)) (le-leb (last_digit n) 57 (omega arith))) refl

pub digits : (k n : ℕ) → all is_digit (decimal_in k n) ≡ true
unfolding decimal_in
digits zero n = digit n
digits (suc k) n =
    cond_cases (λ ds. all is_digit ds ≡ true) (ltb n 10)
    (λ _. digit n)
    (λ _. all_join is_digit (decimal_in k (n / 10)) (last_digit n ∷ []) (digits k (n / 10)) (digit n))

pub decimal_told : (m n : ℕ) {x y : ℕ} {s t : List ℕ} → is_digit x ≡ false → is_digit y ≡ false
    → decimal m ++ x ∷ s ≡ decimal n ++ y ∷ t → (m ≡ n) × (x ∷ s ≡ y ∷ t)
unfolding decimal
decimal_told m n hx hy e =
    let r = span is_digit (decimal_in m m) (decimal_in n n) (digits m m) (digits n n) hx hy e in
    (sym (value_decimal m m (omega arith)) ∙ ap (value 0) r.0 ∙ value_decimal n n (omega arith), r.1)
