-- `bits_sum`: the bits so far and those of the links left are the set.
use Rattle.rows.proofs.Prelude.{◌-◌}
use Rattle.permission_row.specs.ByLink.{of_link}
use Rattle.decision_links.specs.Linked.{link_passes}
use Rattle.decision_links.proofs.Halves.{Halves}
use Rattle.decision_links.proofs.bits_sum.Given as goal

abbrev pub invariant-loop-n : goal.invariant-loop-n
invariant-loop-n l = Halves (λ m. link_passes l.h l.header (of_link l.permissions m) m) l.set l.bit l.n

abbrev pub decreases-loop-n : goal.decreases-loop-n
decreases-loop-n l = 15 - l.n
