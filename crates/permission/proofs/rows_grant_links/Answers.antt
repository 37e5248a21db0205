-- `rows_grant_links`: the rows' fold is their union for each link.
use Rattle.rows.proofs.Prelude.{sym, ◌∙◌}
use Rattle.permission.proofs.LinksUnion.{each_united}
use Rattle.permission.proofs.rows_grant_links.Goals as goal

pub returns : goal.returns
returns c = sym (rw c.in-None.ensures.steps.0 at c.loop-row.invariant) ∙ each_united _ _
