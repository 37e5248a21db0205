-- `put_contents`: the three parts, one after the other.
use Rattle.rows.proofs.Prelude.{arith}
use Rattle.text.proofs.Buffers.{puts_then}
use Rattle.rules.specs.Tables.{row_owner}
use Rattle.rules.specs.Reading.{contents}
use Rattle.reply.proofs.put_contents.Goals as goal

pub returns : goal.returns
unfolding contents row_owner
returns c =
    let rows = c.put_rows.ensures in
    let owner = c.put-p.ensures in
    let own = c.put_own-p.ensures in
    rw (← c.part.ensures) (puts_then (omega arith) (puts_then (omega arith) own owner) rows)
