-- `is_owner`: the code's tests are the definition's, in its order.
use Rattle.rules.specs.Tables.{row_owner}
use Rattle.rules.specs.Permission.{is_owner}
use Rattle.permission.proofs.is_owner.Goals as goal

pub returns : goal.returns
unfolding is_owner row_owner
returns c = rw (c.row_names-row.ensures, c.part.ensures, c.row_names-device.ensures, c.is_empty.ensures)
