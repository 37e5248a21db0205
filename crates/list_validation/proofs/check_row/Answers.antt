-- `check_row`: 20 ends the list, or leaves 21.
use Rattle.rules.proofs.CheckLaws.{stop, skip, last}
use Rattle.list_validation.proofs.check_row.Goals as goal

pub returns-in_default : goal.returns-in_default
returns-in_default c =
    rw (← c.ace_storable.ensures) (stop _ _ _ _ c.refuse_if-c.ensures c.in_default.is)

pub returns : goal.returns
returns c =
    rw (← c.excessive.ensures, ← c.ace_storable.ensures)
    (skip _ _ _ c.refuse_if-c.ensures c.in-Pass.is (last _ _ c.refuse_if.ensures))
