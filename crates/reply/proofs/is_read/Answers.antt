-- `is_read`: by the verb.
use Rattle.rows.proofs.Prelude.{arith}
use borrow.Author.Tests.{ne_eqb}
use Rattle.rules.specs.Reading.{reads}
use Rattle.reply.proofs.is_read.Goals as goal

pub returns-in-1 : goal.returns-in-1
unfolding reads
returns-in-1 c = simp c.in-1.is

pub returns-in_default : goal.returns-in_default
unfolding reads
returns-in_default c = simp (ne_eqb c.args.h.verb 1 (omega arith))
