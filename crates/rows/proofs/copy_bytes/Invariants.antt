-- `copy_bytes`. The loop's invariant: the first bytes are copied, and the others are as they were.
use Rattle.rows.proofs.Prelude.{◌≡◌, ◌++◌, take, drop}
use Rattle.rows.proofs.copy_bytes.Given as goal

abbrev pub invariant-loop-i : goal.invariant-loop-i
invariant-loop-i l = l.to ≡ take l.i l.from ++ drop l.i l.fn.to
