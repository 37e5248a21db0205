-- `put_bodies`: a turn puts the body of one row.
use Rattle.rows.proofs.Prelude.{◌≡◌, ap, List, arith, map, rules, length}
use Rattle.text.proofs.Buffers.{writing_start, writing_step, writing_end}
use Rattle.rows.specs.Rows.{Row, joined}
use Rattle.rules.specs.declared.Table.TheVariants.{Creds}
use Rattle.rules.specs.Tables.{table_size}
use Rattle.rules.specs.Roles.{body_of}
use Rattle.reply.proofs.RowBytes.{rows_long, row_next, body_next}
use Rattle.reply.proofs.put_bodies.Goals as goal

pub loop-row-init : goal.loop-row-init
loop-row-init c =
    let size : length c.args.creds.now ≡ table_size Creds = search rules in
    rw (c.into_iter-row-iterator.ensures.into_iter_gives, c.iter-row-items.ensures, c.cred_rows.ensures)
    (rows_long c.args.count c.args.creds.now size, writing_start _ _ _ (omega arith) (omega arith))

pub loop-row-preserved : goal.loop-row-preserved
loop-row-preserved c =
    let l = c.loop-row in (
      (row_next l.invariant.0 c.in-Some.ensures.steps).1,
      writing_step _ _ l.invariant.1 (body_next c.in-Some.ensures.steps c.body_at-body.ensures) c.put-p.ensures,
    )

pub body_at-body-requires : goal.body_at-body-requires
body_at-body-requires c = let long = (row_next c.loop-row.invariant.0 c.in-Some.ensures.steps).0 in omega (arith, long)

pub returns : goal.returns
unfolding joined
returns c = writing_end c.loop-row.invariant.1 (ap (λ (rows : List Row). joined (map body_of rows)) c.in-None.ensures.steps.0)
