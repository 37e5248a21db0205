-- `defaults::put_listed`: a turn puts the row of one body.
use Rattle.rows.proofs.Prelude.{ap, List, map, arith}
use Rattle.text.proofs.Buffers.{writing_start, writing_step, writing_end}
use Rattle.rows.specs.Rows.{Row, joined}
use Rattle.rules.specs.Tables.{row_from}
use Rattle.effect_fresh.proofs.DefaultLaws.{rows_within, next_from}
use Rattle.effect_fresh.proofs.defaults.put_listed.Goals as goal

pub new-requires : goal.new-requires
new-requires c = rw (c.bodies_in.ensures, c.longest_of.ensures) (rows_within c.args.table _)

pub loop-body-init : goal.loop-body-init
loop-body-init c =
    rw (c.into_iter-body-iterator.ensures.into_iter_gives, c.iter-body-items.ensures, c.new.ensures, c.bodies_in.ensures, c.longest_of.ensures)
    (writing_start _ _ _ (omega arith) (omega arith))

pub loop-body-preserved : goal.loop-body-preserved
loop-body-preserved c = writing_step _ _ c.loop-body.invariant (next_from c.args.table c.in-Some.ensures.steps) c.put_listed_row-p.ensures

pub returns : goal.returns
unfolding joined
returns c =
    writing_end c.loop-body.invariant (ap (λ (rows : List Row). joined (map (row_from c.args.table) rows)) c.in-None.ensures.steps.0)
