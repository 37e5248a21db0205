-- `row_made`: the head, the set, the subject and the period, one after the other, in 36 bytes.
use Rattle.rows.proofs.Prelude.{sym, arith, length-take-le}
use Rattle.rules.specs.Bodies.{every_second}
use Rattle.list_row.proofs.OldRows.{row_is}
use Rattle.list_row.proofs.row_made.Goals as goal

pub slice_bounds-old-end : goal.slice_bounds-old-end
slice_bounds-old-end c = sym (length-take-le 25 c.args.row.now (omega arith))

pub returns : goal.returns
unfolding every_second
returns c =
    row_is _ _ c.args.subject.now c.args.row.now _ _ c.requires.0 c.requires.1 c.requires.2 c.to_be_bytes.ensures (omega arith) c.flags.ensures (omega arith)
    c.part.ensures c.put-p.ensures c.put-p-2.ensures c.put-p-3.ensures c.put.ensures
