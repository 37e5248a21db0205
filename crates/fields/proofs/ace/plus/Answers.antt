-- `ace::plus`: the field is 1.
use Rattle.fields.proofs.ace.plus.Goals as goal

pub returns : goal.returns
returns c = rw c.field.ensures
