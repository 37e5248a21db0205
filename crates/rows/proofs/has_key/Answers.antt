-- `has_key`: the part that is compared is the definition's.
use Rattle.rows.proofs.Prelude.{◌∙◌}
use Rattle.rows.specs.Rows.{has_key}
use Rattle.rows.proofs.has_key.Goals as goal

pub returns : goal.returns
unfolding has_key
returns c = c.same_bytes.ensures ∙ rw c.part.ensures
