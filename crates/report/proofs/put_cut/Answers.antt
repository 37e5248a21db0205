-- `put_cut` meets its contract: the byte string is the text of the definition.
use Rattle.text.specs.Text.{ascii}
use Rattle.report.specs.Run.{cut}
use Rattle.report.proofs.put_cut.Goals as goal

pub returns : goal.returns
unfolding cut ascii
returns c = c.put.ensures
