-- `bits::power`: 2 ^ 16 is 2 ^ width times what is shifted out.
use Rattle.rows.proofs.Prelude.{◌≡◌, ap, ◌∙◌, ℕ, ◌+◌, ◌-◌, ◌/◌, ◌^◌, arith}
use lib.Pow.{pow-add, shl-shr}
use Rattle.fields.proofs.bits.power.Goals as goal

shifted : (w k : ℕ) → 16 ≡ w + k → 65536 / 2 ^ k ≡ 2 ^ w
shifted w k e = ap (λ (n : ℕ). n / 2 ^ k) (ap (λ (m : ℕ). 2 ^ m) e ∙ pow-add 2 w k) ∙ shl-shr (2 ^ w) k

pub returns : goal.returns
returns c = shifted _ (16 - c.args.width) (omega (arith, c.requires))
