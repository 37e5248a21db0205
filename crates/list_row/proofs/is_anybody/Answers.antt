-- `is_anybody`: the first sixteen bytes.
use Rattle.rules_legacy.specs.OldList.{is_anybody}
use Rattle.list_row.proofs.is_anybody.Goals as goal

pub returns : goal.returns
unfolding is_anybody
returns c = rw (← c.part.ensures) c.is_nil.ensures
