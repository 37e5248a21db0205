-- `test_rows`. The loop's invariant: the first `i` rows have no fault, so that what is reported of the list is reported of the rest after them.
use Rattle.list_validation.proofs.RowLoop.{RowInv}
use Rattle.list_validation.proofs.test_rows.Given as goal

abbrev pub invariant-loop-i : goal.invariant-loop-i
invariant-loop-i l = RowInv l.rows l.count l.repeat l.i
