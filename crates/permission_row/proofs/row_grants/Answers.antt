-- `row_grants`: the code branches on the same test as the definition, and a field of five bits is a byte.
use Rattle.rows.proofs.Prelude.{sym, ◌∙◌, arith}
use Rattle.rules.specs.Permission.{grants}
use Rattle.rules.proofs.BitLaws.{field_below}
use Rattle.permission_row.proofs.row_grants.Goals as goal

pub overflow_cast-result : goal.overflow_cast-result
unfolding grants
overflow_cast-result c = omega (arith, field_below _ 18 5 8 _ (omega arith) c.permission.ensures)

pub returns-then-row_fits : goal.returns-then-row_fits
unfolding grants
returns-then-row_fits c = rw (sym c.row_fits.ensures ∙ c.if-row_fits.true) c.permission.ensures

pub returns-else-row_fits : goal.returns-else-row_fits
unfolding grants
returns-else-row_fits c = rw (sym c.row_fits.ensures ∙ c.if-row_fits.false)
