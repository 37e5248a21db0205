-- `sum`: a turn adds one byte; at the end none is left.
use Rattle.rows.proofs.Prelude.{◌∙◌, arith}
use Rattle.store.proofs.Bytes.{no_marks, sum_more}
use Rattle.store.proofs.sum.Goals as goal

pub loop-i-preserved : goal.loop-i-preserved
loop-i-preserved c = sum_more c.args.bytes.now c.loop-i.i c.loop-i.total (omega arith) ∙ c.loop-i.invariant

pub returns : goal.returns
returns c = omega (arith, no_marks c.loop-i.i c.args.bytes.now c.loop-i-test.false)
