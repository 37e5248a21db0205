-- `put_own`: each arm by the number that it was reached by.
use Rattle.rows.proofs.Prelude.{ne_eqb, arith}
use Rattle.rules.specs.Reading.{own_body}
use Rattle.reply.proofs.put_own.Goals as goal

pub returns-in-0 : goal.returns-in-0
unfolding own_body
returns-in-0 c = rw c.in-0.is c.put_owner.ensures

pub returns-in-1 : goal.returns-in-1
unfolding own_body
returns-in-1 c = rw c.in-1.is c.put_byte.ensures

pub returns-in_default : goal.returns-in_default
unfolding own_body
returns-in_default c =
    rw (ne_eqb c.args.resource 0 (omega arith), ne_eqb c.args.resource 1 (omega arith)) c.put.ensures
