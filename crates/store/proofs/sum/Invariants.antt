-- `sum`: the total and the sum of the bytes that are left are the sum of all, modulo 256.
use Rattle.rows.proofs.Prelude.{◌≡◌, ◌+◌, ◌%◌, drop}
use Rattle.rules_store.specs.Store.{sum}
use Rattle.store.proofs.sum.Given as goal

abbrev pub invariant-loop-i : goal.invariant-loop-i
invariant-loop-i l = (l.total + sum (drop l.i l.bytes)) % 256 ≡ sum l.bytes % 256
