-- Laws of bits within a part of a list of bytes: after its first bytes, within them, and before what is joined to it.
use Rattle.rows.proofs.Prelude.{◌≡◌, refl, sym, ap, ap₂, ◌∙◌, List, ◌++◌, ℕ, zero, suc, ◌+◌, ◌-◌, ◌*◌, ◌/◌, ◌%◌, ◌^◌, ◌<◌, add_assoc, arith, length, take, drop}
use Rattle.rows.proofs.Prelude.{get_or, get_or-drop, get_or-take}
use lib.ListN.{get_or-append}
use Rattle.rules.specs.Bits.{bit, bits}

-- after the first k bytes
pub bit_drop : (k : ℕ) (r : List ℕ) (i : ℕ) → bit (drop k r) i ≡ bit r (8 * k + i)
unfolding bit
bit_drop k r i =
    ap₂ (λ (x m : ℕ). x / 2 ^ (7 - m) % 2)
    (get_or-drop k r (i / 8) 0 ∙ ap (λ (n : ℕ). get_or r n 0) (omega arith))
    (omega arith)

pub bits_drop : (k : ℕ) (r : List ℕ) (s w : ℕ) → bits (drop k r) s w ≡ bits r (8 * k + s) w
unfolding bits
bits_drop k r s zero = refl
bits_drop k r s (suc w) = ap₂ (λ (x y : ℕ). x * 2 + y) (bits_drop k r s w) (bit_drop k r (s + w) ∙ ap (bit r) (sym (add_assoc (8 * k) s w)))

-- within the first k bytes
pub bit_take : (k : ℕ) (r : List ℕ) (i : ℕ) → i < 8 * k → bit (take k r) i ≡ bit r i
unfolding bit
bit_take k r i h = ap (λ (x : ℕ). x / 2 ^ (7 - i % 8) % 2) (get_or-take k r (i / 8) 0 (omega arith))

-- before what is joined to it
pub bit_append : (a b : List ℕ) (i : ℕ) → i < 8 * length a → bit (a ++ b) i ≡ bit a i
unfolding bit
bit_append a b i h = ap (λ (x : ℕ). x / 2 ^ (7 - i % 8) % 2) (get_or-append a b 0 (i / 8) (omega arith))
