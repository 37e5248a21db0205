-- `get`: past the rows there is none, else the part of the bytes is the row.
use Rattle.rows.proofs.Prelude.{sym, add-sub_cancel_left}
use Rattle.rows.proofs.Laws.{length_rows_of, row_is}
use Rattle.rows.proofs.table.Rows.get.Goals as goal

pub returns-then-self-index : goal.returns-then-self-index
returns-then-self-index c = rw length_rows_of c.if-self-index.true

pub returns : goal.returns
returns c =
    let rows = c.args.self in
    (rw length_rows_of c.if-self-index.false, rw add-sub_cancel_left (sym (row_is rows.stride rows.count c.args.index rows.bytes.now c.if-self-index.false)))
