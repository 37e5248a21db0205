-- `put_entry`: a comma and then the row, where the row is not left out.
use Rattle.rows.proofs.Prelude.{sym, ◌∙◌, arith}
use Rattle.text.proofs.Buffers.{puts_then}
use Rattle.office_list.proofs.put_entry.Goals as goal

pub returns : goal.returns
returns c = rw (sym c.is_seasonal.ensures ∙ c.if-is_seasonal.false) (puts_then (omega arith) c.put_comma-p.ensures c.put_row.ensures)
