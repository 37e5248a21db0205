-- `Check::refuse_if`: by the condition.
use Rattle.rules.specs.Checks.{refuse_if}
use Rattle.rules.proofs.Check.refuse_if.Goals as goal

pub returns-then-applies : goal.returns-then-applies
unfolding refuse_if
returns-then-applies c = rw c.if-applies.true

pub returns : goal.returns
unfolding refuse_if
returns c = rw c.if-applies.false
