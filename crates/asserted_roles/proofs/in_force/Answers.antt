-- `in_force`: no role, or an expired one, negated.
use Rattle.rules.specs.Roles.{free}
use Rattle.asserted_roles.proofs.in_force.Goals as goal

pub returns : goal.returns
unfolding free
returns c = rw (c.last.ensures, c.no_role.ensures)
