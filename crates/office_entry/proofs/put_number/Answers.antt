-- `put_number`: the key and then the number.
use Rattle.rows.proofs.Prelude.{arith}
use Rattle.text.proofs.Buffers.{puts_then}
use Rattle.office_entry.proofs.put_number.Goals as goal

pub returns : goal.returns
returns c = rw (← c.from.ensures) (puts_then (omega arith) c.put-p.ensures c.put_decimal.ensures)
