-- `put_made`: two rows for "*", one for a UUID.
use Rattle.rows.proofs.Prelude.{sym, ◌∙◌, arith, length-take-le}
use Rattle.text.proofs.Buffers.{puts_length}
use Rattle.list_row.proofs.OldRows.{two_long, after_first, one_long, two_puts, one_puts}
use Rattle.list_row.proofs.put_made.Goals as goal

-- two rows are 72 bytes
pub put_connection-p-requires : goal.put_connection-p-requires
put_connection-p-requires c =
    let l = two_long c.args.number c.args.row.now c.requires.1 (sym c.is_anybody.ensures ∙ c.if-is_anybody.true) in
    (c.requires.1, omega (arith, c.requires.2, l))

pub put_connection-requires : goal.put_connection-requires
put_connection-requires c =
    let p = c.put_connection-p.ensures in
    let l = two_long c.args.number c.args.row.now c.requires.1 (sym c.is_anybody.ensures ∙ c.if-is_anybody.true) in
    let next = after_first _ _ _ c.requires.1 (omega arith) (omega (arith, c.requires.2, l)) p in
    (c.requires.1, omega (arith, c.requires.2, l, next, puts_length p))

pub returns-then-is_anybody : goal.returns-then-is_anybody
returns-then-is_anybody c =
    two_puts _ _ (omega arith) (sym c.is_anybody.ensures ∙ c.if-is_anybody.true) c.put_connection-p.ensures c.put_connection.ensures

pub put_row-requires : goal.put_row-requires
put_row-requires c =
    let l = one_long c.args.number c.args.row.now c.requires.1 (sym c.is_anybody.ensures ∙ c.if-is_anybody.false) in
    (omega arith, length-take-le 16 c.args.row.now (omega arith), c.requires.1, omega (arith, c.requires.2, l))

pub returns : goal.returns
returns c = one_puts _ _ (sym c.is_anybody.ensures ∙ c.if-is_anybody.false) c.put_row.ensures
