-- `put_list`: the beginning, the rows that there is room for, and the end.
use Rattle.rows.proofs.Prelude.{arith}
use Rattle.text.specs.Text.{ascii}
use Rattle.office_list.proofs.Ends.{list_puts}
use Rattle.office_list.proofs.put_list.Goals as goal

pub returns : goal.returns
unfolding ascii
returns c = rw (← c.ace_rows.ensures) (list_puts _ (omega arith) c.put-p.ensures c.put_rows-p.ensures c.put.ensures)
