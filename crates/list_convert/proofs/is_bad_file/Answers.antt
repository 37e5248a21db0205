-- `is_bad_file`: the length, and each row.
use Rattle.rules_legacy.specs.OldList.{bad_file}
use Rattle.list_convert.proofs.is_bad_file.Goals as goal

pub returns : goal.returns
unfolding bad_file
returns c = rw c.has_bad_row.ensures
