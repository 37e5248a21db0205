-- `ace::in_set`: the bit is 1.
use Rattle.fields.proofs.ace.in_set.Goals as goal

pub returns : goal.returns
returns c = rw c.bit_at.ensures
