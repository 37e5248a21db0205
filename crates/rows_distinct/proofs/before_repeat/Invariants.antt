-- `before_repeat`: of the first `i` rows none repeats an earlier number, and their low bytes are marked.
use Rattle.rows_distinct.proofs.Seen.{SeenInv}
use Rattle.rows_distinct.proofs.before_repeat.Given as goal

abbrev pub invariant-loop-i : goal.invariant-loop-i
invariant-loop-i l = SeenInv l.stride l.count l.rows l.seen l.i
