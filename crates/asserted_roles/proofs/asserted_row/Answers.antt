-- `asserted_row`: the body, the roles, and zeros after them.
use Rattle.asserted_roles.proofs.SlotBytes.{row_is}
use Rattle.asserted_roles.proofs.asserted_row.Goals as goal

pub returns : goal.returns
returns c =
    row_is _ _ _ c.requires.0 c.requires.1 c.requires.2 c.requires.3 _ _ _
    _ _ c.body.ensures c.put-p.ensures c.put_with.ensures
