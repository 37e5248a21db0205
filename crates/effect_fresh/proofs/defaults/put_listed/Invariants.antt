-- `defaults::put_listed`: the rows of the bodies that are left are still to be put.
use Rattle.rows.proofs.Prelude.{map}
use Rattle.text.proofs.Buffers.{Writing}
use Rattle.rows.specs.Rows.{joined}
use Rattle.rows.specs.Listed.{left}
use Rattle.rules.specs.Tables.{row_from}
use Rattle.rules.specs.Defaults.{listed}
use Rattle.effect_fresh.proofs.defaults.put_listed.Given as goal

abbrev pub invariant-loop-body : goal.invariant-loop-body
invariant-loop-body l =
    Writing l.initial.out 0 (joined (listed l.table l.list)) (joined (map (row_from l.table) (left l.body-iterator))) l.out l.p
