-- The constants are the definition's, field by field.
use Rattle.rows.proofs.Prelude.{refl}
use Rattle.rules.specs.Bodies.{nil}
use Rattle.rules.specs.Tables.{empty}
use Rattle.rules.proofs.Head.empty.Goals as goal

pub returns : goal.returns
unfolding empty nil
returns c = refl
