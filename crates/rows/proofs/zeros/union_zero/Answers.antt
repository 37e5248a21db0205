-- `zeros::union_zero`: a union is 0 where each byte is.
use Rattle.rows.proofs.Prelude.{and-true}
use Rattle.rows.proofs.AllZero.{zero_more, zeros_from, zeros_past}
use Rattle.rows.proofs.zeros.union_zero.Goals as goal

pub loop-i-preserved : goal.loop-i-preserved
loop-i-preserved c =
    let b = c.args.bytes.now in
    rw (← zero_more c.loop-i.any _ _, ← zeros_from b c.loop-i.i c.loop-i-test.true) c.loop-i.invariant

pub returns : goal.returns
returns c = rw (zeros_past _ _ c.loop-i-test.false, and-true) at c.loop-i.invariant
