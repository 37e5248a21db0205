-- `slots`: the rows of eight bytes after the body are these two.
use Rattle.rows.specs.Rows.{rows_of}
use Rattle.asserted_roles.proofs.slots.Goals as goal

pub returns : goal.returns
unfolding rows_of
returns c = rw (c.role_slot.ensures, c.role_slot-2.ensures)
