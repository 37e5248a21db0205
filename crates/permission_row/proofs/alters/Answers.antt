-- `alters`: the mask is 13, so a bit of it is set where the first, the third or the fourth is.
use Rattle.rows.proofs.Prelude.{◌≡◌, refl, ◌∙◌, ap, ℕ, ◌/◌, ◌%◌, ◌*◌, ◌+◌, ◌<◌, not, eqb, arith}
use Rattle.std.specs.Int.Bits.{bit_and}
use Rattle.std.proofs.lemmas.Nat.{and_block}
use Rattle.std.proofs.lemmas.Grind.{and_numeral}
use Rattle.std.proofs.lemmas.Bool.Decides.{nat_tests}
use Rattle.rules.specs.Permission.{has}
use Rattle.rules.specs.Isolation.{alters}
use Rattle.permission_row.proofs.alters.Goals as goal

masked : (p : ℕ) → bit_and p 13 ≡ p / 4 % 4 * 4 + p % 4 % 2
masked p =
    let parts : p ≡ p / 4 * 4 + p % 4 = omega arith in
    let low : p % 4 < 4 = omega arith in
    ap (λ (x : ℕ). bit_and x 13) parts ∙ and_block 2 (p / 4) 3 (p % 4) 1 low (omega arith)
    ∙ rw (and_numeral (p / 4) 2 refl, and_numeral (p % 4) 0 refl)

by_mask : (p : ℕ) → not (eqb (p / 4 % 4 * 4 + p % 4 % 2) 0) ≡ alters p
unfolding has
by_mask p = grind (arith, nat_tests)

pub returns : goal.returns
returns c = ap (λ (x : ℕ). not (eqb x 0)) (masked c.args.permission) ∙ by_mask c.args.permission
