-- `rows_grant`: the rows' fold is their union.
use Rattle.rows.proofs.Prelude.{sym, ◌∙◌}
use Rattle.permission.proofs.LinksUnion.{rows_united}
use Rattle.permission.proofs.rows_grant.Goals as goal

pub returns : goal.returns
returns c = sym (rw c.in-None.ensures.steps.0 at c.loop-row.invariant) ∙ rows_united _ 0 _
