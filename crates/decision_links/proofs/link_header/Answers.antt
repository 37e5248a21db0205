-- `link_header`: field by field.
use Rattle.decision_links.proofs.link_header.Goals as goal

pub returns : goal.returns
returns c = rw c.resource_row.ensures
