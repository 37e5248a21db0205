-- `row_names`: the owner is compared with nil and with the row's subject, as in the definition.
use Rattle.rules.specs.Bodies.{nil, is_nil}
use Rattle.rules.specs.Permission.{names}
use Rattle.permission.proofs.row_names.Goals as goal

pub returns : goal.returns
unfolding names is_nil nil
returns c = rw (c.same_bytes.ensures, c.subject.ensures, c.same_bytes-nil.ensures)
