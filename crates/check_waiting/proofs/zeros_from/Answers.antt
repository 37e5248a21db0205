-- `zeros_from`: two parts that overlap, or lie side by side, are all the bytes.
use Rattle.rows.proofs.Prelude.{add-sub_cancel_left, arith}
use Rattle.rows.proofs.Laws.{take_rest}
use Rattle.check_waiting.proofs.Laws.{overlap}
use Rattle.check_waiting.proofs.zeros_from.Goals as goal

pub returns-then-from-le132 : goal.returns-then-from-le132
returns-then-from-le132 c =
    rw (c.run_zero-then-from-le132.ensures, c.run_zero.ensures, add-sub_cancel_left, take_rest 132 c.args.slot.now)
    (overlap 128 c.args.from 132 c.args.slot.now c.if-from-le132.true (omega (arith, c.requires.1)))

pub returns-then-from-le196 : goal.returns-then-from-le196
returns-then-from-le196 c =
    rw (c.run_zero-then-from-le196-2.ensures, c.run_zero-then-from-le196.ensures, add-sub_cancel_left, take_rest 196 c.args.slot.now)
    (overlap 64 c.args.from 196 c.args.slot.now c.if-from-le196.true (omega (arith, c.if-from-le132.false)))
