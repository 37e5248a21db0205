-- `in_force`: both ends of the period, in the order of the definition.
use Rattle.rules.specs.Permission.{in_force}
use Rattle.permission_row.proofs.in_force.Goals as goal

pub returns : goal.returns
unfolding in_force
returns c = rw (c.last.ensures, c.first.ensures)
