-- `distinct`: none of the rows repeats a number where all are before the first that does.
use Rattle.rows.proofs.Laws.{length_rows_of}
use Rattle.rows.proofs.Repeat.{distinct_repeat}
use Rattle.rows_distinct.proofs.distinct.Goals as goal

pub returns : goal.returns
returns c = rw (distinct_repeat, length_rows_of, c.before_repeat.ensures)
