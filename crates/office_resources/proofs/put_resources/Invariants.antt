-- `put_resources`: the items from the k-th known number on are still to be put.
use Rattle.rows.proofs.Prelude.{true}
use Rattle.text.proofs.Buffers.{Writing}
use Rattle.office_resources.proofs.Chosen.{items}
use Rattle.office_resources.proofs.put_resources.Given as goal

abbrev pub invariant-loop-n : goal.invariant-loop-n
invariant-loop-n l = Writing l.fn.out l.at (items l.row true 0) (items l.row l.first l.n-index) l.out l.p
