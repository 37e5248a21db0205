-- `next`: the first row, and the rows after it.
use Rattle.rows.proofs.Prelude.{arith}
use Rattle.rows.proofs.Walk.{rows_none, rows_next}
use Rattle.rows.proofs.table.RowIterIterator.next.Goals as goal

pub returns-then-rows-eq0-clause-steps : goal.returns-then-rows-eq0-clause-steps
returns-then-rows-eq0-clause-steps c =
    let none = rows_none c.args.self.now.rows.stride _ c.args.self.now.rows.bytes.now c.if-rows-eq0.true in (none, none)

pub returns-clause-steps : goal.returns-clause-steps
returns-clause-steps c = rows_next c.args.self.now.rows.stride _ c.args.self.now.rows.bytes.now (omega arith)
