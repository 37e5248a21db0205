-- `put_lines`: what is written, and the lines of the records that are left, are the lines of the input.
use Rattle.rows.proofs.Prelude.{◌+◌}
use Rattle.std.specs.Iterator.Adapters.{enumerate_source, enumerate_count}
use Rattle.report.proofs.Lines.{Running}
use Rattle.report.proofs.put_lines.Given as goal

abbrev pub invariant-loop-index : goal.invariant-loop-index
invariant-loop-index l =
    (goal.iterator-loop-index).can_next l.index-iterator
    × (goal.iterator-loop-index).is_finite l.index-iterator
    × Running l.input l.fn.out l.at l.out l.p l.t
    (enumerate_source l.index-iterator).rest.now
    (enumerate_count l.index-iterator + 1)
