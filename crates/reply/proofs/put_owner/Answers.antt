-- `put_owner`: a byte and then the device owner.
use Rattle.rows.proofs.Prelude.{arith}
use Rattle.text.proofs.Buffers.{puts_then}
use Rattle.rules.specs.Reading.{own_body}
use Rattle.reply.proofs.put_owner.Goals as goal

pub returns : goal.returns
unfolding own_body
returns c =
    puts_then (omega arith) c.put_byte-p.ensures c.put.ensures
