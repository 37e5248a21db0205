-- `counter`: the sum of the marks. A store that is too short has none.
use Rattle.rows.proofs.Prelude.{arith}
use Rattle.std.proofs.lemmas.Grind.{common_steps}
use Rattle.rules_store.specs.Store.{marks, counter}
use Rattle.store.proofs.Bytes.{no_marks}
use Rattle.store.proofs.counter.Goals as goal

pub returns-in_default : goal.returns-in_default
unfolding counter marks
returns-in_default c = grind (arith, no_marks)

pub returns : goal.returns
unfolding counter marks
returns c = grind (arith, common_steps)
