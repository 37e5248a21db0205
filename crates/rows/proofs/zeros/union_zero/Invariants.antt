-- `zeros::union_zero`: the union so far, and the bytes after it.
use Rattle.rows.proofs.Prelude.{◌≡◌, ◌&&◌, eqb, drop}
use Rattle.rows.specs.Rows.{all_zero}
use Rattle.rows.proofs.zeros.union_zero.Given as goal

abbrev pub invariant-loop-i : goal.invariant-loop-i
invariant-loop-i l = (eqb l.any 0 && all_zero (drop l.i l.bytes)) ≡ all_zero l.bytes
