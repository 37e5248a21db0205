-- `cred_rows`: as many as are counted, or as there is room for.
use Rattle.rules.specs.Tables.{rows_in}
use Rattle.fields.proofs.cred_rows.Goals as goal

pub returns : goal.returns
unfolding rows_in
returns c = rw (← c.capped.ensures) c.new.ensures
