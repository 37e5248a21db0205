-- `is_bad`: the zero bits, and the set as an access row has it.
use Rattle.list_row.proofs.OldRows.{bad_is}
use Rattle.list_row.proofs.is_bad.Goals as goal

pub returns : goal.returns
returns c = rw (c.set_known.ensures, c.skip.ensures) (bad_is _ _ c.flags.ensures)
