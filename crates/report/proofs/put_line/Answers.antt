-- `put_line` meets its contract: what its four calls put, one after the other, is the line.
use Rattle.rows.proofs.Prelude.{arith}
use Rattle.text.proofs.Buffers.{puts_then}
use Rattle.report.proofs.Lines.{line_numbers, line_length}
use Rattle.report.proofs.put_line.Goals as goal

pub returns-clause-puts : goal.returns-clause-puts
returns-clause-puts c =
    rw (← (line_numbers _ _ _ _))
    (puts_then (omega arith) (puts_then (omega arith) (puts_then (omega arith) c.put_number-p.ensures c.put_number-p-2.ensures) c.put_number-p-3.ensures) c.put_number.ensures)

pub returns-clause-line_fits : goal.returns-clause-line_fits
returns-clause-line_fits c = line_length _ _ _ _ (omega arith) (omega arith) (omega arith)
