-- `is_seasonal`: both ends of the period, in the order of the definition.
use Rattle.rules_office.specs.Office.{always, seasonal}
use Rattle.office_list.proofs.is_seasonal.Goals as goal

pub returns : goal.returns
unfolding always seasonal
returns c = rw (c.last.ensures, c.first.ensures)
