-- `resource_fits`: the set, then the wildcards; a row without one has nothing more.
use Rattle.rows.proofs.Prelude.{◌≡◌, sym, ◌∙◌, false, ◌||◌, or_left, or_right}
use Rattle.rules.specs.Permission.{resource_fits}
use Rattle.permission_row.proofs.resource_fits.Goals as goal

pub returns-then-in_set : goal.returns-then-in_set
unfolding resource_fits
returns-then-in_set c = rw (sym c.in_set.ensures ∙ c.if-in_set.true)

pub returns-then-not-has_star-has_minus : goal.returns-then-not-has_star-has_minus
unfolding resource_fits
returns-then-not-has_star-has_minus c =
    let none : (c.star-has_star.result || c.minus-has_minus.result || c.plus-has_plus.result) ≡ false = c.if-not-has_star-has_minus.true in
    let neither = or_left (c.star-has_star.result || c.minus-has_minus.result) c.plus-has_plus.result none in
    rw (
      sym c.in_set.ensures ∙ c.if-in_set.false,
      sym c.star-has_star.ensures ∙ or_left c.star-has_star.result c.minus-has_minus.result neither,
      sym c.plus-has_plus.ensures ∙ or_right (c.star-has_star.result || c.minus-has_minus.result) c.plus-has_plus.result none,
      sym c.minus-has_minus.ensures ∙ or_right c.star-has_star.result c.minus-has_minus.result neither,
    )

pub returns : goal.returns
unfolding resource_fits
returns c =
    rw (c.minus-has_minus.ensures, c.plus-has_plus.ensures, c.star-has_star.ensures, sym c.in_set.ensures ∙ c.if-in_set.false)
