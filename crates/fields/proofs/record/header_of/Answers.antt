-- `header_of`: field by field.
use Rattle.rules.specs.Record.{sender}
use Rattle.fields.proofs.record.header_of.Goals as goal

pub returns : goal.returns
unfolding sender
returns c = cc
