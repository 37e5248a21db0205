-- Laws of a number in decimal: its two cases, and how many digits there are at most.
-- The steps of the definition drop out here, and nothing else speaks of them.
use mathlib.Core.Path.{◌≡◌, refl}
use mathlib.Core.Bool.{Bool, true, false}
use mathlib.Core.List.{[], ◌∷◌, ◌++◌}
use Prim.Native.Nat.{ℕ, zero, suc, ◌^◌, ◌/◌, ◌≤◌, ◌<◌}
use native.Mathlib.Nat.{pow-suc}
use native.Mathlib.Omega.{arith}
use lib.Dec.{ltb}
use lib.ListN.{length, length-append}
use borrow.Author.Tests.{lt-ltb, le-ltb, ltb-true, ltb-false}
use Rattle.text.specs.Text.{last_digit, decimal_in, decimal}

by_test : {A : Type 0} (b : Bool) → (b ≡ true → A) → (b ≡ false → A) → A
by_test true f g = f refl
by_test false f g = g refl

-- any number of steps that is enough gives the same digits
steps_same : (j k n : ℕ) → n ≤ j → n ≤ k → decimal_in j n ≡ decimal_in k n
unfolding decimal_in
steps_same zero zero n h l = refl
steps_same zero (suc k) n h l = rw (lt-ltb n 10 (omega arith))
steps_same (suc j) zero n h l = rw (lt-ltb n 10 (omega arith))
steps_same (suc j) (suc k) n h l = by_test (ltb n 10) (λ e. rw e) (λ e. rw (e, steps_same j k (n / 10) (omega arith) (omega arith)))

pub decimal_one : (n : ℕ) → n < 10 → decimal n ≡ last_digit n ∷ []
unfolding decimal decimal_in
decimal_one zero h = refl
decimal_one (suc n) h = rw (lt-ltb (suc n) 10 h)

pub decimal_more : (n : ℕ) → 10 ≤ n → decimal n ≡ decimal (n / 10) ++ last_digit n ∷ []
unfolding decimal decimal_in
decimal_more zero h = absurd (omega arith)
decimal_more (suc n) h = rw (le-ltb (suc n) 10 h, steps_same n (suc n / 10) (suc n / 10) (omega arith) (omega arith))

-- a number below a power of ten has no more digits than the power
pub decimal_length : (k n : ℕ) → n < 10 ^ suc k → length (decimal n) ≤ suc k
decimal_length zero n h = rw (decimal_one n (omega arith)) (omega arith)
decimal_length (suc k) n h =
    let more = decimal_length k (n / 10) (omega (arith, rw (pow-suc 10 (suc k)) at h)) in
    by_test (ltb n 10)
    (λ e. rw (decimal_one n (ltb-true n 10 e)) (omega arith))
    (λ e. rw (decimal_more n (ltb-false n 10 e), length-append) (omega arith))
