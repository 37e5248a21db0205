-- `asserted::same_role`: authority and role, the first four bytes.
use Rattle.rules.specs.Roles.{same_role}
use Rattle.fields.proofs.asserted.same_role.Goals as goal

pub returns : goal.returns
unfolding same_role
returns c = cc
