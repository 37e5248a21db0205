-- `put_rows`: the rows that are left are still to be put.
use Rattle.rows.proofs.Prelude.{true}
use Rattle.rows.specs.Listed.{listed, left}
use Rattle.text.proofs.Buffers.{Writing}
use Rattle.office_list.proofs.Ends.{entries}
use Rattle.office_list.proofs.put_rows.Given as goal

abbrev pub invariant-loop-row : goal.invariant-loop-row
invariant-loop-row l = Writing l.initial.out l.at (entries true (listed l.rows)) (entries l.first (left l.row-iterator)) l.out l.p
