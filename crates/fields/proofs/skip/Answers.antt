-- `after`: past the end there is nothing, else the part is what `drop` leaves.
use Rattle.rows.proofs.Prelude.{sym, arith, drop_of_length-le}
use Rattle.rows.proofs.Laws.{take_rest}
use Rattle.fields.proofs.skip.Goals as goal

pub returns-then-s-n : goal.returns-then-s-n
returns-then-s-n c = sym (drop_of_length-le _ {i = c.args.n} (omega (arith, c.if-s-n.true)))

pub returns : goal.returns
returns c = take_rest c.args.n c.args.s.now
