-- `settled`: whole images are compared, where it is asked.
use Rattle.rows.proofs.Prelude.{arith}
use Rattle.std.proofs.lemmas.Grind.{common_steps}
use Rattle.rules_store.specs.Store.{image_at, current, settled}
use Rattle.store.proofs.settled.Goals as goal

pub returns-then-n-from : goal.returns-then-n-from
unfolding settled current image_at
returns-then-n-from c = grind (arith, common_steps)

pub returns-else-n-from : goal.returns-else-n-from
unfolding settled current image_at
returns-else-n-from c = grind (arith, common_steps)
