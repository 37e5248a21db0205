-- `same_bytes`. The loop's invariant: the slices are the same where what is left of them is.
use Rattle.rows.proofs.Prelude.{◌≡◌, drop}
use Rattle.rows.specs.Rows.{same}
use Rattle.rows.proofs.same_bytes.Given as goal

abbrev pub invariant-loop-i : goal.invariant-loop-i
invariant-loop-i l = same l.a l.b ≡ same (drop l.i l.a) (drop l.i l.b)
