-- `check_capacity`: the test is the definition's.
use Rattle.rows.proofs.Prelude.{rules}
use Rattle.rules.specs.Reading.{too_short}
use Rattle.reply.proofs.check_capacity.Goals as goal

pub returns : goal.returns
unfolding too_short
returns c = search rules
