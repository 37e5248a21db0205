-- `bits::field`: a field within three bytes is a quotient and a remainder of their number.
use Rattle.rows.proofs.Prelude.{◌≡◌, sym, ap, ap₂, ◌∙◌, List, ℕ, ◌+◌, ◌-◌, ◌*◌, ◌/◌, ◌%◌, ◌^◌, ◌≤◌, ◌<◌, arith}
use lib.Pow.{pow_pos}
use Rattle.rules.specs.Bits.{bits}
use Rattle.rules.proofs.BitLaws.{bits_part, bits_below}
use Rattle.fields.proofs.bits.field.Goals as goal

module _ (r : List ℕ) (start width three size : ℕ) (w : width ≤ 16) (t : three ≡ bits r (8 * (start / 8)) 24) (p : size ≡ 2 ^ width) where
  is : three / 2 ^ (24 - (start % 8 + width)) % size ≡ bits r start width
  is =
      ap₂ (λ (x y : ℕ). x / 2 ^ (24 - (start % 8 + width)) % y) t p
      ∙ sym (bits_part r (8 * (start / 8)) (start % 8) width 24 (omega arith))
      ∙ ap (λ (s : ℕ). bits r s width) (omega arith)

  small : three / 2 ^ (24 - (start % 8 + width)) % size < 65536
  small = rw is (bits_below r start width 16 w)

pub nonzero_rem-result : goal.nonzero_rem-result
nonzero_rem-result c = rw c.power-size.ensures (pow_pos _)

pub overflow_cast-result-2 : goal.overflow_cast-result-2
overflow_cast-result-2 c = omega (arith, small _ _ _ _ _ c.requires.1 c.three_at-three.ensures c.power-size.ensures)

pub returns : goal.returns
returns c = is _ _ _ _ _ c.requires.1 c.three_at-three.ensures c.power-size.ensures
