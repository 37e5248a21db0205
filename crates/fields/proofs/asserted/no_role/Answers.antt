-- `asserted::no_role`: the role is 0.
use Rattle.rules.specs.Roles.{no_role}
use Rattle.fields.proofs.asserted.no_role.Goals as goal

pub returns : goal.returns
unfolding no_role
returns c = rw c.role.ensures
