-- Worked examples of the definitions, by computing.
-- Numbers in decimal, and a buffer after a text was put into it: within, over its end, and past it.
use mathlib.Core.Path.{◌≡◌, refl}
use mathlib.Core.List.{[], ◌∷◌, map}
use Prim.Native.Nat.{ℕ}
use Rattle.text.specs.Text.{ascii, decimal_in, decimal}
use Rattle.text.specs.Buffer.{written}

pub decimals :
    map decimal (0 ∷ 9 ∷ 10 ∷ 31 ∷ 100 ∷ 16384 ∷ 65535 ∷ [])
    ≡ map ascii ("0" ∷ "9" ∷ "10" ∷ "31" ∷ "100" ∷ "16384" ∷ "65535" ∷ [])
unfolding ascii decimal_in decimal
decimals = refl

pub buffers :
    map (λ (at : ℕ). written (ascii "......") at (ascii "cut")) (0 ∷ 2 ∷ 4 ∷ 6 ∷ 9 ∷ [])
    ≡ map ascii ("cut..." ∷ "..cut." ∷ "....cu" ∷ "......" ∷ "......" ∷ [])
unfolding ascii written
buffers = refl
