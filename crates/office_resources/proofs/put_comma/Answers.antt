-- `put_comma`: nothing before the first, and a comma before each other.
use Rattle.rows.proofs.Prelude.{arith}
use Rattle.text.specs.Text.{ascii}
use Rattle.text.proofs.Buffers.{puts_none}
use Rattle.rules_office.specs.Office.{comma}
use Rattle.office_resources.proofs.put_comma.Goals as goal

pub returns-then-first : goal.returns-then-first
unfolding comma
returns-then-first c = rw c.if-first.true (puts_none _ (omega arith))

pub returns-else-first : goal.returns-else-first
unfolding comma ascii
returns-else-first c = rw c.if-first.false c.put.ensures
