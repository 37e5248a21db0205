-- `bits_sum`: the bits so far and those of the links left are the set.
use Rattle.rows.proofs.Prelude.{arith}
use Rattle.decision_links.proofs.Halves.{at_first, next, at_last}
use Rattle.decision_links.proofs.bits_sum.Goals as goal

pub loop-n-init : goal.loop-n-init
loop-n-init c = at_first _

pub overflow_sub-at : goal.overflow_sub-at
overflow_sub-at c = omega (arith, c.loop-n.invariant.low)

pub overflow_cast-at : goal.overflow_cast-at
overflow_cast-at c = omega (arith, c.loop-n-test.true)

pub bounds-permissions-at : goal.bounds-permissions-at
bounds-permissions-at c = omega (arith, c.loop-n-test.true)

pub overflow_add-set : goal.overflow_add-set
overflow_add-set c = omega (arith, c.loop-n.invariant.capacity, c.link_bit-set.ensures.1)

pub overflow_add-n : goal.overflow_add-n
overflow_add-n c = omega (arith, c.loop-n-test.true)

pub loop-n-smaller : goal.loop-n-smaller
loop-n-smaller c = omega (arith, c.loop-n-test.true)

pub loop-n-preserved : goal.loop-n-preserved
loop-n-preserved c = next _ _ _ _ c.loop-n.invariant c.loop-n-test.true _ c.link_bit-set.ensures.0 c.link_bit-set.ensures.1

pub returns : goal.returns
returns c = at_last _ _ _ _ c.loop-n.invariant c.loop-n-test.false
