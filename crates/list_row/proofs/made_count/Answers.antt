-- `made_count`: by the subject.
use Rattle.rows.proofs.Prelude.{sym, ◌∙◌}
use Rattle.rules_legacy.specs.Conversion.{entries_of}
use Rattle.list_row.proofs.made_count.Goals as goal

pub returns-then-is_anybody : goal.returns-then-is_anybody
unfolding entries_of
returns-then-is_anybody c = rw (sym c.is_anybody.ensures ∙ c.if-is_anybody.true)

pub returns-else-is_anybody : goal.returns-else-is_anybody
unfolding entries_of
returns-else-is_anybody c = rw (sym c.is_anybody.ensures ∙ c.if-is_anybody.false)
