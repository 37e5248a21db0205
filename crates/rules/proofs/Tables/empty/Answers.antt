-- The empty head, and rows of zeros.
use Rattle.rules.specs.Bodies.{nil}
use Rattle.rules.specs.Tables.{empty}
use Rattle.rules.proofs.Tables.empty.Goals as goal

pub returns : goal.returns
unfolding empty nil
returns c = rw (c.from_parts.ensures, c.empty.ensures)
