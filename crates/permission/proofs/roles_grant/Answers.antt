-- `roles_grant`: by the same test as the definition.
use Rattle.rules.specs.Permission.{by_roles}
use Rattle.permission.proofs.roles_grant.Goals as goal

pub returns-then-e-connection : goal.returns-then-e-connection
unfolding by_roles
returns-then-e-connection c = rw c.if-e-connection.true

pub returns-else-e-connection : goal.returns-else-e-connection
unfolding by_roles
returns-else-e-connection c = rw c.if-e-connection.false
