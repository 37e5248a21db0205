-- `put_rows`: a turn puts one row, if it is not left out.
use Rattle.rows.proofs.Prelude.{arith}
use Rattle.text.proofs.Buffers.{writing_start, writing_step, writing_end}
use Rattle.rules_office.specs.Office.{rows_text}
use Rattle.office_list.proofs.Ends.{entries_next, entries_end}
use Rattle.office_list.proofs.put_rows.Goals as goal

pub loop-row-init : goal.loop-row-init
loop-row-init c = rw (c.into_iter-row-iterator.ensures.into_iter_gives, c.iter-row-items.ensures) (writing_start _ _ _ (omega arith) (omega arith))

pub loop-row-preserved : goal.loop-row-preserved
loop-row-preserved c =
    let l = c.loop-row in
    rw c.is_seasonal-first.ensures (writing_step _ _ l.invariant (entries_next l.first c.in-Some.ensures.steps) c.put_entry-p.ensures)

pub returns : goal.returns
unfolding rows_text
returns c = writing_end c.loop-row.invariant (entries_end c.loop-row.first c.in-None.ensures.steps.0)
