-- `put_row`: the row over its part of the bytes.
use Rattle.rows.proofs.Prelude.{add-sub_cancel_left}
use Rattle.rows.specs.Rows.{with_row}
use Rattle.rows_change.proofs.put_row.Goals as goal

pub returns : goal.returns
unfolding with_row
returns c = rw (c.copy_bytes.ensures, add-sub_cancel_left)
