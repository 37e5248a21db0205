-- `put_number` meets its contract: what its two calls put, one after the other.
use Rattle.rows.proofs.Prelude.{arith}
use Rattle.text.proofs.Buffers.{puts_then}
use Rattle.report.proofs.put_number.Goals as goal

pub returns : goal.returns
returns c = puts_then (omega arith) c.put_decimal-p.ensures c.put_byte.ensures
