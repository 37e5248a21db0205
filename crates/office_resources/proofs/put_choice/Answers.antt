-- `put_choice`: a comma, the key, the value and the end.
use Rattle.rows.proofs.Prelude.{arith}
use Rattle.text.specs.Text.{ascii}
use Rattle.text.proofs.Buffers.{puts_then}
use Rattle.office_resources.proofs.put_choice.Goals as goal

pub returns : goal.returns
unfolding ascii
returns c =
    puts_then (omega arith) c.put_comma-p.ensures
    (puts_then (omega arith) c.put-p.ensures (puts_then (omega arith) c.put-p-2.ensures c.put.ensures))
