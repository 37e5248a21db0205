-- `put_rows`: the bodies of credential rows, the first bytes of the access rows, or the roles in force.
use Rattle.rows.proofs.Prelude.{arith, ne_eqb}
use Rattle.reply.proofs.RowBytes.{row_part}
use Rattle.rules.specs.Reading.{row_bytes}
use Rattle.reply.proofs.put_rows.Goals as goal

pub returns-in-2 : goal.returns-in-2
unfolding row_bytes
returns-in-2 c = rw c.in-2.is c.put_creds.ensures

pub returns-in-3 : goal.returns-in-3
unfolding row_bytes
returns-in-3 c =
    rw (c.in-3.is, ← row_part _ _ _ _ c.capped-n.ensures c.part.ensures) c.put.ensures

pub returns-in-4 : goal.returns-in-4
unfolding row_bytes
returns-in-4 c =
    rw (c.in-4.is, ← c.row_of.ensures) c.put_roles.ensures

pub returns-in_default : goal.returns-in_default
unfolding row_bytes
returns-in_default c =
    rw (ne_eqb c.args.resource 2 (omega arith), ne_eqb c.args.resource 3 (omega arith), ne_eqb c.args.resource 4 (omega arith)) c.put-in_default.ensures
