-- `write`: the byte to copy, and the mark whose turn it is where no byte is left.
use Rattle.rows.proofs.Prelude.{arith}
use Rattle.std.proofs.lemmas.Grind.{common_steps}
use Rattle.rules_store.specs.Store.{even_counter, spare_at, image_at, spare, mark_at, raised, raise, write_at, write}
use Rattle.store.proofs.write.Goals as goal

pub returns-in-Some : goal.returns-in-Some
unfolding write write_at spare spare_at even_counter image_at
returns-in-Some c = grind (arith, common_steps)

pub returns : goal.returns
unfolding write write_at spare spare_at even_counter image_at raise mark_at raised
returns c = grind (arith, common_steps)
