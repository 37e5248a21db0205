-- A row gives every link nothing where it does not fit the sender or its period, and else its permission on the links that it has.
-- An array of seven numbers has one for each link.
use Rattle.rows.proofs.Prelude.{◌≡◌, refl, sym, ap, ◌∙◌, Bool, true, false, cond, and-false, and-true, List, [], ◌∷◌, ℕ, arith, length, bit_or, or_zero_r}
use mathlib.Core.Path.{fun_ext}
use Rattle.rows.specs.Rows.{Row}
use Rattle.rules.specs.declared.Resource.{Resource}
use Rattle.rules.specs.Bodies.{ace_permission}
use Rattle.rules.specs.Permission.{subject_fits, resource_fits, in_force, row_fits, grants}
use Rattle.permission_row.specs.ByLink.{by_link, of_link}

pub each : (l : List ℕ) → length l ≡ 7 → l ≡ by_link (of_link l)
unfolding by_link
each [] h = absurd (omega (arith, h))
each (a ∷ []) h = absurd (omega (arith, h))
each (a ∷ b ∷ []) h = absurd (omega (arith, h))
each (a ∷ b ∷ c ∷ []) h = absurd (omega (arith, h))
each (a ∷ b ∷ c ∷ d ∷ []) h = absurd (omega (arith, h))
each (a ∷ b ∷ c ∷ d ∷ e ∷ []) h = absurd (omega (arith, h))
each (a ∷ b ∷ c ∷ d ∷ e ∷ f ∷ []) h = absurd (omega (arith, h))
each (a ∷ b ∷ c ∷ d ∷ e ∷ f ∷ g ∷ []) h = refl
each (a ∷ b ∷ c ∷ d ∷ e ∷ f ∷ g ∷ x ∷ l) h = absurd (omega (arith, h))

-- nothing more for any link
pub unchanged : (l : List ℕ) (g : ℕ → ℕ) → length l ≡ 7 → ((n : ℕ) → g n ≡ 0) → l ≡ by_link (λ n. bit_or (of_link l n) (g n))
unchanged l g h none = each l h ∙ ap by_link (fun_ext (λ n. sym (ap (bit_or (of_link l n)) (none n) ∙ or_zero_r (of_link l n))))

module _ (clock : ℕ) (w : Row) (connection : ℕ) (a : Row) (e : Resource) where
  pub out_of_period : in_force clock a ≡ false → grants clock w connection e a ≡ 0
  unfolding grants row_fits
  out_of_period h = rw (h, and-false)

  pub of_another : subject_fits clock w connection a ≡ false → grants clock w connection e a ≡ 0
  unfolding grants row_fits
  of_another h = rw (h)

  pub by_resource : subject_fits clock w connection a ≡ true → in_force clock a ≡ true
      → grants clock w connection e a ≡ cond (resource_fits e a) (ace_permission a) 0
  unfolding grants row_fits
  by_resource s f = rw (s, f, and-true)

-- a test that fails adds nothing
pub kept : (total p : ℕ) (b : Bool) → b ≡ false → total ≡ bit_or total (cond b p 0)
kept total p b h = sym (ap (λ (x : Bool). bit_or total (cond x p 0)) h ∙ or_zero_r total)
